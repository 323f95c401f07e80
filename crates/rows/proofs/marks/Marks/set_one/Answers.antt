use Rattle.std.proofs.Common.{◌≡◌, ℕ, ◌+◌, ◌*◌, ltb, set, length, ap, ◌∙◌, arith, length-set}
use Rattle.std.proofs.lemmas.Bool.{and_parts, ltb-true, leb-true}
use Rattle.std.proofs.lemmas.List.Elements.{All-set}
use Rattle.std.specs.List.{concat}
use Rattle.rows.proofs.Tables.{set_joined}
use Rattle.rows.proofs.marks.Marks.set_one.Goals as goal

pub invariant_of-self : goal.invariant_of-self
invariant_of-self c =
    let k = and_parts (ltb c.args.access.mode 4) _ c.requires in
    let cell = leb-true _ _ k.1 in
    All-set (λ marks. length marks ≡ 4) c.self.inside.by_cell c.from.result _
    (length-set _ _ _ ∙ c.self.invariant c.from.result _ (omega (arith, c.self.told, c.from.ensures, cell)))
    c.self.invariant

pub returns : goal.returns
returns c =
    let k = and_parts (ltb c.args.access.mode 4) _ c.requires in
    let mode = ltb-true _ _ k.0 in
    let cell = leb-true _ _ k.1 in
    set_joined c.self.inside.by_cell c.self.invariant c.from.result c.from-2.result c.args.number (omega (arith, c.self.told, c.from.ensures, cell))
    (omega (arith, c.from-2.ensures, mode))
    ∙ ap (λ (i : ℕ). set (concat c.self.inside.by_cell) (4 * i + c.from-2.result) c.args.number) c.from.ensures
    ∙ ap (λ (j : ℕ). set (concat c.self.inside.by_cell) (4 * c.args.access.cell + j) c.args.number) c.from-2.ensures
    ∙ ap (λ xs. set xs (4 * c.args.access.cell + c.args.access.mode) c.args.number) c.self.view_is
