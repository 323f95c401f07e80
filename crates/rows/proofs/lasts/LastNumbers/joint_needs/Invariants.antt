use Rattle.std.proofs.Common.{◌≡◌, ℕ, ◌<◌, length, get_or}
use Rattle.rows.specs.Lasts.{joint_need_of}
use Rattle.rows.proofs.lasts.LastNumbers.joint_needs.Given as goal

abbrev pub invariant-loop-v : goal.invariant-loop-v
invariant-loop-v l = (length l.need-items ≡ 16) × ((k : ℕ) → k < l.v → get_or l.need-items k 0 ≡ joint_need_of l.touched l.self.plains k)
