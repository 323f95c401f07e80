use Rattle.std.proofs.Common.{◌≡◌, ◌+◌, ◌*◌, ◌≤◌, take, sum_by}
use Rattle.model.specs.Model.{queued_count_of}
use Rattle.workers.specs.Views.{workers_of}
use Rattle.workers.proofs.table.Workers.queued_count.Given as goal

-- worker 0 and so many of the others are counted
abbrev pub invariant-loop-worker : goal.invariant-loop-worker
invariant-loop-worker l = (l.count ≡ sum_by queued_count_of (take (l.worker-index + 1) (workers_of l.self))) × (l.count ≤ 16 * (l.worker-index + 1))
