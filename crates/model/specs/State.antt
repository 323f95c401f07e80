-- What a certifier stores. Assumes nothing.
use Rattle.std.specs.Prelude.{ℕ, ◌+◌, ◌-◌, ◌*◌, Bool, true, false, List, [], ◌∷◌, length, replicate, ◌==◌, slice_index, slice_index_or, slice_set}
use Rattle.model.specs.Words.{Intention}
use Rattle.model.specs.Sheets.{blank}
use Rattle.model.specs.Book.{Verdict}
use Rattle.model.specs.declared.verdict.Verdict.TheVariants.{Undecided}
pub use Rattle.model.specs.declared.status.Status.{Status}
use Rattle.model.specs.declared.status.Status.TheVariants.{Idle, Held, Parked}

pub record Row : Type 0 where
  pub intention : Intention
  pub verdict : Verdict

-- a number, and what it needs from each of the workers 0 to 15
pub record Order : Type 0 where
  pub number : ℕ
  pub needs : List ℕ

pub record Worker : Type 0 where
  pub status : Status
  -- the number that the worker last finished, at first 0
  pub posted : ℕ
  -- oldest first, the open one included
  pub orders : List Order

pub record State : Type 0 where
  -- number k stands at k - 1
  pub rows : List Row
  -- the numbers 1 to this one are assigned
  pub assigned : ℕ
  -- so many are finished
  pub finished : ℕ
  -- sixteen
  pub workers : List Worker
  -- the last committed number with an access of mode m at cell c stands at 4 c + m
  pub marks : List ℕ
  -- the last assigned joint number that touches each partition
  pub joints : List ℕ
  -- the last assigned plain number of each worker
  pub plains : List ℕ

abbrev pub no_row : Row
no_row = record { intention = blank; verdict = Undecided }

abbrev pub no_order : Order
no_order = record { number = 0; needs = [] }

abbrev pub no_worker : Worker
no_worker = record { status = Idle; posted = 0; orders = [] }

unfoldable pub no_workers : List Worker
no_workers = replicate 16 no_worker

unfoldable pub no_marks_yet : List ℕ
no_marks_yet = replicate 4096 0

unfoldable pub no_numbers_yet : List ℕ
no_numbers_yet = replicate 16 0

-- a certifier just made
abbrev pub fresh : State
fresh = record { rows = []; assigned = 0; finished = 0; workers = no_workers; marks = no_marks_yet; joints = no_numbers_yet; plains = no_numbers_yet }

-- ⟨ what is read ⟩

abbrev pub last_number : State → ℕ
last_number s = length s.rows

abbrev pub row_at : List Row → ℕ → Row
row_at rows k = slice_index_or rows (k - 1) no_row

abbrev pub worker_at : List Worker → ℕ → Worker
worker_at workers w = slice_index_or workers w no_worker

abbrev pub intention_at : State → ℕ → Intention
intention_at s k = (row_at s.rows k).intention

abbrev pub status_at : State → ℕ → Status
status_at s w = (worker_at s.workers w).status

abbrev pub posted_at : State → ℕ → ℕ
posted_at s w = (worker_at s.workers w).posted

abbrev pub orders_at : State → ℕ → List Order
orders_at s w = (worker_at s.workers w).orders

abbrev pub mark_at : List ℕ → ℕ → ℕ → ℕ
mark_at marks cell mode = slice_index marks (4 * cell + mode)

abbrev pub is_empty : List Order → Bool
is_empty [] = true
is_empty (o ∷ rest) = false

abbrev pub oldest_of : List Order → Order
oldest_of [] = no_order
oldest_of (o ∷ rest) = o

-- held or parked
abbrev pub is_on : Status → Bool
is_on Idle = false
is_on (Held k) = true
is_on (Parked k) = true

-- the number that an open worker is open on
abbrev pub on_number : Status → ℕ
on_number Idle = 0
on_number (Held k) = k
on_number (Parked k) = k

abbrev pub is_held : Status → Bool
is_held Idle = false
is_held (Held k) = true
is_held (Parked k) = false

abbrev pub is_parked : Status → Bool
is_parked Idle = false
is_parked (Held k) = false
is_parked (Parked k) = true

abbrev pub is_held_on : ℕ → Status → Bool
is_held_on k Idle = false
is_held_on k (Held j) = j == k
is_held_on k (Parked j) = false

-- ⟨ what is written ⟩

abbrev pub with_worker : State → ℕ → Worker → State
with_worker s w x = record s { workers = slice_set s.workers w x }

abbrev pub in_status : Status → Worker → Worker
in_status status x = record x { status = status }
