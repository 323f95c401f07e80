-- A line is compared with the one that its frame is written as.
use Rattle.std.proofs.Common.{◌≡◌, ℕ, Bool, true, false, not, ◌&&◌, ltb, List, length, is_some, Some, None, Ok, Err, Decides, Option, sym, refl, ap, ◌∙◌, arith}
use Rattle.std.proofs.lemmas.Slice.Eq.{bytes_eq-Decides}
use Rattle.std.proofs.lemmas.List.{length_push}
use Rattle.std.proofs.lemmas.Bool.{cond-false, le-ltb, and_from}
use Rattle.std.specs.Str.{bytes_eq}
use Rattle.terms.specs.Refusals.{refuse}
use Rattle.frames.specs.declared.fault.WriteFault.{WriteFault}
use Rattle.frames.specs.declared.fault.WriteFault.TheVariants.{ShortBuffer}
use Rattle.frames.specs.Contents.{Content, line_of, no_line_of}
use Rattle.frames.specs.Reading.{read_answer}
use Rattle.frames.specs.Writing.{unless, written, write_answer}
use Rattle.frames.proofs.RoundTripLaws.{read_is_written}
use Rattle.frames.proofs.WriteLaws.{line_short}
use Rattle.wording.specs.Back.{is_line_from}

-- a line that reads as a frame is the frame's
pub read_line_is : (f : Content) (line : List ℕ) → read_answer line ≡ Ok f → is_line_from f line ≡ true
read_line_is f line e =
    let (w, s) = read_is_written line f e in
    and_from _ _ (ap (λ (o : Option WriteFault). not (is_some o)) w.held) ((bytes_eq-Decides (line_of f) line).1 s)

-- a buffer of 2,055 characters takes every frame that has a line
fits : (f : Content) → no_line_of f ≡ None → write_answer f 2055 ≡ Ok (length (written f))
fits f h =
    let n = line_short f h in
    let m = length_push (line_of f) 10 in
    let t = le-ltb 2055 (length (written f)) (omega arith) in
    ap (λ (o : Option WriteFault). unless o (refuse (ltb 2055 (length (written f))) (ShortBuffer (length (written f))) (Ok (length (written f))))) h ∙ cond-false _ _ _ t

-- so what it refuses has none
pub refused_has_none : (f : Content) (line : List ℕ) (e : WriteFault) → Err e ≡ write_answer f 2055 → false ≡ is_line_from f line
refused_has_none f line e h = by (no_line_of f) refl
  where
    by : (o : Option WriteFault) → no_line_of f ≡ o → false ≡ is_line_from f line
    by (Some x) p = ap (λ (o : Option WriteFault). not (is_some o) && bytes_eq (line_of f) line) (sym p)
    by None p = absurd (let q = fits f p in let z : ◌≡◌ {A = ℕ} 0 1 = cc in omega arith)

-- two tests of one fact
same_decided : {P Q : Type 0} (r s : Bool) → Decides r P → Decides s Q → (P → Q) → (Q → P) → r ≡ s
same_decided true true d e f g = refl
same_decided true false d e f g = sym (e.1 (f (d.0 refl)))
same_decided false true d e f g = d.1 (g (e.0 refl))
same_decided false false d e f g = refl

-- what it takes reads as the frame, so a comparison with it tells whether the line is the frame's
pub compared : (f : Content) (line front : List ℕ) (r : Bool) → read_answer front ≡ Ok f → Decides r (front ≡ line) → r ≡ is_line_from f line
compared f line front r e d =
    let (w, s) = read_is_written front f e in
    same_decided r (bytes_eq (line_of f) line) d (bytes_eq-Decides (line_of f) line) (λ x. s ∙ x) (λ y. sym s ∙ y)
    ∙ sym (ap (λ (o : Option WriteFault). not (is_some o) && bytes_eq (line_of f) line) w.held)
