use Rattle.std.proofs.Common.{◌≡◌, drop}
use Rattle.model.specs.Model.{marking}
use Rattle.rows.proofs.marks.Marks.set.Given as goal

-- the accesses that are left make the rest of the marks
abbrev pub invariant-loop-access : goal.invariant-loop-access
invariant-loop-access l = marking l.number (drop l.access-index l.accesses) l.self ≡ marking l.number l.accesses l.initial.self
