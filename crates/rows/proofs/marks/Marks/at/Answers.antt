use Rattle.std.proofs.Common.{ℕ, ◌+◌, ◌*◌, get_or, ap, ◌∙◌, arith}
use Rattle.std.specs.List.{concat}
use Rattle.rows.proofs.Tables.{at_joined}
use Rattle.rows.proofs.marks.Marks.at.Goals as goal

pub returns : goal.returns
returns c =
    at_joined c.self.inside.by_cell c.self.invariant c.from.result c.from-2.result (omega (arith, c.self.told, c.from.ensures, c.requires)) (omega (arith, c.from-2.ensures, c.requires))
    ∙ ap (λ (i : ℕ). get_or (concat c.self.inside.by_cell) (4 * i + c.from-2.result) 0) c.from.ensures
    ∙ ap (λ (j : ℕ). get_or (concat c.self.inside.by_cell) (4 * c.args.cell + j) 0) c.from-2.ensures
    ∙ ap (λ xs. get_or xs (4 * c.args.cell + c.args.mode) 0) c.self.view_is
