-- What the changes of a store leave. Assumes nothing.
use Rattle.std.specs.Prelude.{ℕ, ◌+◌, ◌-◌, Bool, cond, List, Some, None, Option, slice_index, slice_set}
use Rattle.model.specs.Book.{decided}
use Rattle.model.specs.State.{State, row_at, worker_at, with_worker, in_status}
use Rattle.model.specs.Model.{next_number, pushed, posting, marking}
use Rattle.model.specs.declared.status.Status.{Status}
use Rattle.rows.specs.Lasts.{joint_needs_of, joints_after_of}
use Rattle.workers.specs.Orders.{plain_needs}

-- worker p has the next number as an order that needs the last joint number of partition p
abbrev pub plain_assigned : State → ℕ → State
plain_assigned s p = record {
  rows = s.rows;
  assigned = next_number s;
  finished = s.finished;
  workers = slice_set s.workers p (pushed (record { number = next_number s; needs = plain_needs (slice_index s.joints p) }) (worker_at s.workers p));
  marks = s.marks;
  joints = s.joints;
  plains = slice_set s.plains p (next_number s);
}

-- worker 0 has the next number as an order that needs the last plain number of each worker whose partition it touches
abbrev pub joint_assigned : State → List Bool → State
joint_assigned s touched = record {
  rows = s.rows;
  assigned = next_number s;
  finished = s.finished;
  workers = slice_set s.workers 0 (pushed (record { number = next_number s; needs = joint_needs_of touched s.plains }) (worker_at s.workers 0));
  marks = s.marks;
  joints = joints_after_of touched s.joints (next_number s);
  plains = s.plains;
}

-- worker w has the new status, if there is one
abbrev pub moved : State → ℕ → Option Status → State
moved s w None = s
moved s w (Some status) = with_worker s w (in_status status (worker_at s.workers w))

abbrev pub with_marks : State → ℕ → Bool → State
with_marks s k commits = record {
  rows = s.rows;
  assigned = s.assigned;
  finished = s.finished;
  workers = s.workers;
  marks = cond commits (marking k (row_at s.rows k).intention.accesses s.marks) s.marks;
  joints = s.joints;
  plains = s.plains;
}

abbrev pub with_verdict : State → ℕ → Bool → State
with_verdict s k commits = record {
  rows = slice_set s.rows (k - 1) (record { intention = (row_at s.rows k).intention; verdict = decided commits });
  assigned = s.assigned;
  finished = s.finished;
  workers = s.workers;
  marks = s.marks;
  joints = s.joints;
  plains = s.plains;
}

abbrev pub closed : State → ℕ → ℕ → State
closed s w k = record {
  rows = s.rows;
  assigned = s.assigned;
  finished = s.finished + 1;
  workers = slice_set s.workers w (posting k (worker_at s.workers w));
  marks = s.marks;
  joints = s.joints;
  plains = s.plains;
}

-- number k of worker w is finished: only a commit marks
abbrev pub settled : State → ℕ → ℕ → Bool → State
settled s w k commits = record {
  rows = slice_set s.rows (k - 1) (record { intention = (row_at s.rows k).intention; verdict = decided commits });
  assigned = s.assigned;
  finished = s.finished + 1;
  workers = slice_set s.workers w (posting k (worker_at s.workers w));
  marks = cond commits (marking k (row_at s.rows k).intention.accesses s.marks) s.marks;
  joints = s.joints;
  plains = s.plains;
}
