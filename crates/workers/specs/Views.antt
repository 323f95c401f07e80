-- What the table of the workers shows: the workers of the model. Assumes nothing.
use Rattle.std.specs.Prelude.{◌≡◌, ℕ, ◌-◌, ◌<◌, Bool, false, List, ◌∷◌, map, vec_items, nat_lt, slice_index, slice_index_or}
use Rattle.model.specs.State.{Order, Worker, worker_at, is_empty, oldest_of}
use Rattle.workers.specs.Orders.{plain_order, joint_order}
use Rattle.workers.specs.Records.{worker_of, IsOldestIn}
use Rattle.workers.specs.declared.plain_order.PlainOrder.{PlainOrder}
use Rattle.workers.specs.declared.record.WorkerRecord.{WorkerRecord}
use Rattle.workers.specs.declared.table.OrderPlace.{OrderPlace}
use Rattle.workers.specs.declared.table.Workers.{Workers}

abbrev pub plain_workers : List (WorkerRecord PlainOrder) → List Worker
plain_workers xs = map (worker_of plain_order) xs

abbrev pub workers_of : Workers → List Worker
workers_of t = worker_of joint_order t.joint ∷ plain_workers (vec_items t.plain)

abbrev pub orders_at : Workers → ℕ → List Order
orders_at t w = (worker_at (workers_of t) w).orders

-- a worker has orders, and the oldest stands there
pub record IsOldest (t : Workers) (at : OrderPlace) : Type 0 where
  pub low : at.place < 16
  pub some : is_empty (orders_at t at.worker) ≡ false
  pub joint : at.worker ≡ 0 → IsOldestIn joint_order t.joint at.place
  pub plain : 0 < at.worker → (x : WorkerRecord PlainOrder) → x ≡ slice_index_or (vec_items t.plain) (at.worker - 1) x → IsOldestIn plain_order x at.place

-- worker v has not posted what the oldest order of worker w needs from it
abbrev pub lacks_at : Workers → ℕ → ℕ → Bool
lacks_at t w v = nat_lt (worker_at (workers_of t) v).posted (slice_index (oldest_of (orders_at t w)).needs v)
