-- The status that a call leaves a worker in, for every status and every call. Assumes nothing.
use Rattle.std.specs.Prelude.{cond, Some, None, Option, ◌==◌}
use Rattle.model.specs.declared.status.Status.{Status}
use Rattle.model.specs.declared.status.Status.TheVariants.{Idle, Held, Parked}
use Rattle.workers.specs.declared.moves.Move.{Move}
use Rattle.workers.specs.declared.moves.Move.TheVariants.{Begin, Park, Resume, Recall, Finish}

-- none where the call is not for a worker in this status; park and finish are for the number that is held
abbrev pub next_status_of : Status → Move → Option Status
next_status_of Idle (Begin k) = Some (Held k)
next_status_of Idle (Park k) = None
next_status_of Idle Resume = None
next_status_of Idle Recall = None
next_status_of Idle (Finish k) = None
next_status_of (Held j) (Begin k) = None
next_status_of (Held j) (Park k) = cond (j == k) (Some (Parked k)) None
next_status_of (Held j) Resume = None
next_status_of (Held j) Recall = Some (Parked j)
next_status_of (Held j) (Finish k) = cond (j == k) (Some Idle) None
next_status_of (Parked j) (Begin k) = None
next_status_of (Parked j) (Park k) = None
next_status_of (Parked j) Resume = Some (Held j)
next_status_of (Parked j) Recall = None
next_status_of (Parked j) (Finish k) = None
