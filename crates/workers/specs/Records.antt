-- What the record of a worker shows: a worker of the model. Assumes nothing.
use Rattle.std.specs.Prelude.{◌≡◌, ℕ, ◌<◌, false, map, slice_index_or}
use Rattle.rings.specs.Rings.{held}
use Rattle.model.specs.State.{Order, Worker, is_empty, oldest_of}
use Rattle.workers.specs.declared.record.WorkerRecord.{WorkerRecord}

-- a record whose orders show what `shown` says of each
abbrev pub worker_of : {E : Type 0} → (E → Order) → WorkerRecord E → Worker
worker_of shown x = record { status = x.status; posted = x.posted; orders = map shown (held x.row x.places) }

-- there are orders, and the oldest stands at this place of the row
pub record IsOldestIn {E : Type 0} (shown : E → Order) (x : WorkerRecord E) (place : ℕ) : Type 0 where
  pub low : place < 16
  pub some : is_empty (worker_of shown x).orders ≡ false
  pub at : (d : E) → shown (slice_index_or x.row place d) ≡ oldest_of (worker_of shown x).orders
