use Rattle.std.proofs.Common.{◌≡◌, ◌∙◌, [], ◌∷◌, length, refl, ap}
use Rattle.std.proofs.lemmas.List.Elements.{All-replicate}
use Rattle.std.specs.List.{concat}
use Rattle.model.specs.State.{no_marks_yet}
use Rattle.rows.proofs.Tables.{joined_zeros}
use Rattle.rows.proofs.marks.Marks.new.Goals as goal

pub invariant_of-result : goal.invariant_of-result
invariant_of-result c = rw c.no_marks.ensures (All-replicate (λ marks. length marks ≡ 4) 1024 (0 ∷ 0 ∷ 0 ∷ 0 ∷ []) refl)

pub returns : goal.returns
unfolding no_marks_yet
returns c = ap concat c.no_marks.ensures ∙ joined_zeros 1024
