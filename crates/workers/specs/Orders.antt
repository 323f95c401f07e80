-- What the two kinds of orders show: the orders of the model. Assumes nothing.
use Rattle.std.specs.Prelude.{ℕ, cond, List, map, ◌==◌}
use Rattle.std.specs.List.{range_with_len}
use Rattle.model.specs.State.{Order}
use Rattle.workers.specs.declared.plain_order.PlainOrder.{PlainOrder}
use Rattle.workers.specs.declared.joint_order.JointOrder.{JointOrder}

-- a plain order needs something from worker 0 alone
unfoldable pub plain_needs : ℕ → List ℕ
plain_needs need = map (λ v. cond (v == 0) need 0) (range_with_len 0 16)

abbrev pub plain_order : PlainOrder → Order
plain_order o = record { number = o.number; needs = plain_needs o.need }

abbrev pub joint_order : JointOrder → Order
joint_order o = record { number = o.number; needs = o.needs }
