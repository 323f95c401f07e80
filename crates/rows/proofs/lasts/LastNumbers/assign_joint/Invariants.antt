use Rattle.rows.proofs.Moving.{Moved}
use Rattle.rows.proofs.lasts.LastNumbers.assign_joint.Given as goal

abbrev pub invariant-loop-p : goal.invariant-loop-p
invariant-loop-p l = Moved l.touched l.number l.initial.last-items l.last-items l.p
