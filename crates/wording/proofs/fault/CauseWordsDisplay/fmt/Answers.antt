use Rattle.std.proofs.Common.{◌≡◌, ℕ, ◌-◌, ◌^◌, false, List, [], ◌∷◌, codes, Some, Option, option_map, sym, ap, ◌∙◌, subst, arith}
use Rattle.std.proofs.Output.{has_written_of_eq}
use Rattle.std.specs.Fmt.{◌++?◌, DisplaysOnOk, styled_digits_output, padded_integral, format_spec}
use Rattle.frames.specs.Hex.{hex_of}
use Rattle.wording.specs.Words.{cause_words}
use Rattle.wording.proofs.WordLaws.{hex_shown}
use Rattle.wording.proofs.fault.CauseWordsDisplay.fmt.Goals as goal

pub returns-in-UnknownKind-clause-writes : goal.returns-in-UnknownKind-clause-writes
returns-in-UnknownKind-clause-writes g c = λ plain ok.
    let kind = c.in-UnknownKind.kind in
    let hole : styled_digits_output c.in_radix.result c.laid_out.result ≡ Some (hex_of (kind ∷ [])) =
    ap (λ spec. styled_digits_output c.in_radix.result spec) c.laid_out.ensures
    ∙ (ap (option_map (padded_integral (format_spec 32 0 4 2 (2 ^ 64 - 1)) false [])) c.in_radix.ensures
    ∙ ap (λ (bs : List ℕ). Some bs) (hex_shown kind (omega arith))) in
    let writes = subst (λ (o : Option (List ℕ)). DisplaysOnOk g.W.Write.write_str_gives c.args.f.now c.write-in-UnknownKind.result (Some (codes "unknown kind ") ++? o) c.write-in-UnknownKind.new.self) hole c.write-in-UnknownKind.ensures.writes in
    has_written_of_eq g.W.Write.write_str_gives c.args.f.now _ _ _ (sym (ap cause_words c.in-UnknownKind.is)) (writes plain ok)
