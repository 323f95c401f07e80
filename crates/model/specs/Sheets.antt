-- Sheets of calls, and what can be said of a sheet in the subject's own words. Assumes nothing.
-- The newest line of a sheet stands first, so that its tail is what stands above it.
use Rattle.std.specs.Prelude.{◌≡◌, ℕ, ◌+◌, ◌<◌, ◌≤◌, Bool, true, false, cond, not, ◌&&◌, List, [], ◌∷◌, ◌++◌, length, Ok, Err, count_by, Result, ◌==◌, nat_eq}
use Rattle.std.specs.List.{range_with_len}
use Rattle.model.specs.Faults.{CallFault}
use Rattle.model.specs.Finding.{any}
use Rattle.model.specs.Words.{Access, Intention, Setup, Shares}
use Rattle.model.specs.Book.{Verdict, commits, decided}
pub use Rattle.model.specs.declared.verdict.Outcome.{Outcome}
pub use Rattle.model.specs.declared.verdict.Clash.{Clash}
pub use Rattle.model.specs.declared.tally.Tally.{Tally}

-- ⟨ lines ⟩

-- a call with its arguments, which may be any numbers. A ticket is a worker and a number.
pub data Call : Type 0 where
  -- a snapshot and accesses
  append : ℕ → List Access → Call
  assign : Call
  -- a worker
  begin : ℕ → Call
  -- a ticket
  park : ℕ → ℕ → Call
  -- a worker
  resume : ℕ → Call
  recall : ℕ → Call
  -- a ticket
  finish : ℕ → ℕ → Call
  -- a number
  verdict : ℕ → Call
  -- the worker whose oldest order is asked about, and the worker that it needs
  need : ℕ → ℕ → Call
  tally : Call

-- what an accepted call answers
abbrev pub Accepted : Call → Type 0
Accepted (append snapshot accesses) = ℕ
Accepted assign = ℕ × ℕ
Accepted (begin w) = ℕ × ℕ
Accepted (park w k) = ℕ
Accepted (resume w) = ℕ × ℕ
Accepted (recall w) = ℕ
Accepted (finish w k) = ℕ × Outcome
Accepted (verdict k) = Verdict
Accepted (need w v) = ℕ
Accepted tally = Tally

abbrev pub Answer : Call → Type 0
Answer c = Result (Accepted c) CallFault

-- a line of a sheet: a call and its answer
pub data Line : Type 0 where
  line : (c : Call) → Answer c → Line

-- `above` is what the sheet was at some moment
abbrev pub Stood : List Line → List Line → Type 0
Stood sheet above = (below : List Line) × (sheet ≡ below ++ above)

-- ⟨ what the accepted calls did ⟩

pub data Event : Type 0 where
  -- number and intention
  appended : ℕ → Intention → Event
  -- worker and number
  assigned : ℕ → ℕ → Event
  -- worker and number
  granted : ℕ → ℕ → Event
  -- number
  finished : ℕ → Event
  -- nothing that the words below are about
  nothing : Event

abbrev pub done : (c : Call) → Accepted c → Event
done (append snapshot accesses) k = appended k (record { snapshot = snapshot; accesses = accesses })
done assign x = assigned x.1 x.0
done (begin w) ticket = granted w ticket.1
done (park w k) x = nothing
done (resume w) x = nothing
done (recall w) x = nothing
done (finish w k) x = finished k
done (verdict k) x = nothing
done (need w v) x = nothing
done tally x = nothing

abbrev pub event : Line → Event
event (line c (Ok x)) = done c x
event (line c (Err fault)) = nothing

-- the events by kind, newest first
pub record History : Type 0 where
  pub appended : List (ℕ × Intention)
  pub assigned : List (ℕ × ℕ)
  pub granted : List (ℕ × ℕ)
  pub finished : List ℕ

abbrev pub entered : History → Event → History
entered h (appended k x) = record h { appended = (k, x) ∷ h.appended }
entered h (assigned w k) = record h { assigned = (w, k) ∷ h.assigned }
entered h (granted w k) = record h { granted = (w, k) ∷ h.granted }
entered h (finished k) = record h { finished = k ∷ h.finished }
entered h nothing = h

abbrev pub history : List Line → History
history [] = record { appended = []; assigned = []; granted = []; finished = [] }
history (l ∷ above) = entered (history above) (event l)

-- ⟨ words over a history ⟩

abbrev pub blank : Intention
blank = record { snapshot = 0; accesses = [] }

-- the intention that was appended as number k
unfoldable pub numbered : List (ℕ × Intention) → ℕ → Intention
numbered [] k = blank
numbered (x ∷ rest) k = cond (k == x.0) x.1 (numbered rest k)

-- the pair of worker w and number k stands among these
abbrev pub pairs : ℕ → ℕ → List (ℕ × ℕ) → Bool
pairs w k xs = any (λ x. (w == x.0) && k == x.1) xs

abbrev pub is_finished : History → ℕ → Bool
is_finished h k = any (nat_eq k) h.finished

-- worker w was granted a number that is not finished
abbrev pub is_open : History → ℕ → Bool
is_open h w = any (λ x. (w == x.0) && not (is_finished h x.1)) h.granted

-- the order is neither finished nor granted
abbrev pub is_queued : History → ℕ × ℕ → Bool
is_queued h x = not (is_finished h x.1) && not (pairs x.0 x.1 h.granted)

-- ⟨ words over a sheet ⟩

-- intention k of the sheet
abbrev pub intention : List Line → ℕ → Intention
intention sheet = numbered (history sheet).appended

-- the verdict of intention k, by the book of what the sheet appends
abbrev pub one_at_a_time : Setup → List Line → ℕ → Verdict
one_at_a_time P sheet k = decided (commits P.rule (intention sheet) k)

-- how many appends, assigns and finishes were accepted
abbrev pub appends : List Line → ℕ
appends sheet = length (history sheet).appended

abbrev pub assigns : List Line → ℕ
assigns sheet = length (history sheet).assigned

abbrev pub finishes : List Line → ℕ
finishes sheet = length (history sheet).finished

-- how many of the workers 0 to n are open
abbrev pub open_workers : Setup → List Line → ℕ
open_workers P sheet = count_by (is_open (history sheet)) (range_with_len 0 (P.map.partitions + 1))

-- how many orders are queued
abbrev pub queued_orders : List Line → ℕ
queued_orders sheet = count_by (is_queued (history sheet)) (history sheet).assigned

-- no accepted finish of k stands on the sheet
abbrev pub Unended : List Line → ℕ → Type 0
Unended sheet k = is_finished (history sheet) k ≡ false

-- intention k was appended and is not finished
abbrev pub Unfinished : List Line → ℕ → Type 0
Unfinished sheet k = (0 < k) × (k ≤ appends sheet) × Unended sheet k

-- worker w has the order k
abbrev pub HasOrder : List Line → ℕ → ℕ → Type 0
HasOrder sheet w k = (pairs w k (history sheet).assigned ≡ true) × Unended sheet k

-- k is the lowest order of worker w
abbrev pub Oldest : List Line → ℕ → ℕ → Type 0
Oldest sheet w k = HasOrder sheet w k × ((j : ℕ) → j < k → HasOrder sheet w j → ⊥)

-- k is the lowest order of all, and worker w has it
abbrev pub Lowest : List Line → ℕ → ℕ → Type 0
Lowest sheet w k = HasOrder sheet w k × ((j u : ℕ) → j < k → HasOrder sheet u j → ⊥)

abbrev pub OpenOn : List Line → ℕ → ℕ → Type 0
OpenOn sheet w k = (pairs w k (history sheet).granted ≡ true) × Unended sheet k

abbrev pub Idle : List Line → ℕ → Type 0
Idle sheet w = (k : ℕ) → OpenOn sheet w k → ⊥

-- an earlier unfinished intention touches a partition that k touches
abbrev pub Blocked : Setup → List Line → ℕ → Type 0
Blocked P sheet k = (j : ℕ) × (j < k) × Unfinished sheet j × Shares P.map (intention sheet j) (intention sheet k)
