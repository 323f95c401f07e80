use Rattle.std.proofs.Common.{◌∙◌}
use Rattle.std.proofs.lemmas.Slice.Eq.{slice_eq-Decides}
use Rattle.frames.specs.Held.{content_of}
use Rattle.wording.proofs.BackLaws.{read_line_is, refused_has_none, compared}
use Rattle.wording.proofs.back.is_line_of.Goals as goal
use Rattle.std.proofs.lemmas.Bool.Decides.{Decides-eqb}

pub returns-in_default : goal.returns-in_default
returns-in_default c =
    let no = refused_has_none (content_of c.args.frame) c.args.line.now _ c.in_default.ensures.answer in
    record { answer = no; reads = λ e. no ∙ read_line_is _ _ e }

pub returns : goal.returns
returns c =
    let same = compared (content_of c.args.frame) c.args.line.now _ c.eq.result c.in-Ok.ensures.reads (slice_eq-Decides Decides-eqb _ _ _ c.eq.ensures) in
    record { answer = same; reads = λ e. same ∙ read_line_is _ _ e }
