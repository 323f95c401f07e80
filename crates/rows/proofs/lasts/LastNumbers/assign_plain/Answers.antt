use Rattle.std.proofs.Common.{ℕ, List, set, get_or, ap, ◌∙◌, sym, arith, length-set}
use Rattle.std.proofs.lemmas.List.{get_or-map, set-get_or, map-set}
use Rattle.rows.specs.Lasts.{LastLists}
use Rattle.rows.specs.declared.lasts.Last.{Last}
use Rattle.rows.proofs.Moving.{none, joints_of, plains_of}
use Rattle.rows.proofs.lasts.LastNumbers.assign_plain.Goals as goal

pub invariant_of-self : goal.invariant_of-self
invariant_of-self c = length-set _ _ _ ∙ c.self.invariant

pub returns : goal.returns
returns c =
    let of = c.self.inside.by_partition in
    let x : Last = record { joint = (get_or of c.index.result none).joint; plain = c.args.number } in
    ap (λ (js : List ℕ). record { joints = js; plains = plains_of (set of c.index.result x) })
    (map-set (λ (y : Last). y.joint) of c.index.result x
    ∙ ap (set (joints_of of) c.index.result) (sym (get_or-map (λ (y : Last). y.joint) of c.index.result none 0 (omega (arith, c.self.invariant, c.index.ensures.low))))
    ∙ set-get_or (joints_of of) c.index.result 0)
    ∙ ap (λ (ps : List ℕ). record { joints = joints_of of; plains = ps }) (map-set (λ (y : Last). y.plain) of c.index.result x)
    ∙ ap (λ (i : ℕ). record { joints = joints_of of; plains = set (plains_of of) i c.args.number }) c.index.ensures.value
    ∙ ap (λ (z : LastLists). record { joints = z.joints; plains = set z.plains c.args.p c.args.number }) c.self.view_is
