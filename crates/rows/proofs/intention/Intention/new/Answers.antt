use Rattle.std.proofs.Common.{◌≡◌, ℕ, List, length, ap, ◌∙◌, arith}
use Rattle.std.proofs.lemmas.List.{take_at}
use Rattle.model.specs.Finding.{all}
use Rattle.model.specs.Words.{Intention as Meant}
use Rattle.terms.specs.declared.access.Access.{Access}
use Rattle.rows.specs.Known.{known}
use Rattle.rows.proofs.intention.Intention.new.Goals as goal

pub invariant_of-result : goal.invariant_of-result
invariant_of-result c =
    let e = take_at c.copy_from_slice.new.self _ (length c.args.accesses.now) (ap length c.copy_from_slice.ensures.after) in
    record { some = c.requires.some; few = c.requires.few; marked = ap (all known) (e ∙ c.copy_from_slice.ensures.after) ∙ c.requires.marked }

meant : (s t : ℕ) (xs ys : List Access) → s ≡ t → xs ≡ ys → ◌≡◌ {A = Meant} (record { snapshot = s; accesses = xs }) (record { snapshot = t; accesses = ys })
meant s t xs ys e f = cc

pub returns : goal.returns
returns c =
    let e = take_at c.copy_from_slice.new.self _ (length c.args.accesses.now) (ap length c.copy_from_slice.ensures.after) in
    meant _ c.args.snapshot _ c.args.accesses.now (omega arith) (e ∙ c.copy_from_slice.ensures.after)
