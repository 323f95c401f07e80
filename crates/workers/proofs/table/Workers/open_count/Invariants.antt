use Rattle.std.proofs.Common.{◌≡◌, ◌+◌, ◌≤◌, cond, take, sum_by}
use Rattle.model.specs.State.{is_on}
use Rattle.workers.specs.Views.{workers_of}
use Rattle.workers.proofs.table.Workers.open_count.Given as goal

-- worker 0 and so many of the others are counted
abbrev pub invariant-loop-p : goal.invariant-loop-p
invariant-loop-p l = (l.count ≡ sum_by (λ x. cond (is_on x.status) 1 0) (take (l.p + 1) (workers_of l.self))) × (l.count ≤ l.p + 1)
