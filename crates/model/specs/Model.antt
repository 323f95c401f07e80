-- What every call answers, and what it leaves. Assumes nothing.
-- Every answer is a chain of checks in the order of the table of refusals, one check to a line.
use Rattle.std.specs.Prelude.{◌≡◌, ℕ, ◌+◌, ◌-◌, ◌*◌, ◌<◌, Bool, true, cond, not, ◌&&◌, ◌||◌, List, [], ◌∷◌, ◌++◌, map, length, drop, Ok, Err, sum_by, count_by, Result, ◌==◌, nat_le, nat_lt, slice_index, slice_set}
use Rattle.std.specs.List.{range_with_len, prefix_len}
use Rattle.terms.specs.Maps.{MapMeaning}
use Rattle.terms.specs.Numbers.{within}
use Rattle.terms.specs.Refusals.{refuse, ok_as}
use Rattle.terms.specs.Rules.{RuleMeaning, clashes}
use Rattle.model.specs.Faults.{CallFault}
use Rattle.model.specs.declared.fault.CallFault.TheVariants.{AccessCount, SnapshotAhead, UnknownMode, UnknownCell, LogFull, NoneUnassigned, WorkerFull, UnknownWorker, WorkerOpen, NoOrder, NeedNotPosted, NotParked, NotHeld, TicketUnfit, UnknownNumber}
use Rattle.model.specs.declared.verdict.Outcome.TheVariants.{Commit, Abort}
use Rattle.model.specs.declared.verdict.Verdict.TheVariants.{Undecided, Committed, Aborted}
use Rattle.model.specs.declared.status.Status.TheVariants.{Idle, Held, Parked}
use Rattle.model.specs.Finding.{any, exists}
use Rattle.model.specs.Words.{Access, Intention, Setup, has, touches, worker, is_joint}
use Rattle.model.specs.Book.{Verdict, decided}
use Rattle.model.specs.Sheets.{Call, Answer, Line, Outcome, Clash, Tally}
use Rattle.model.specs.Sheets.Call.{append, assign, begin, park, resume, recall, finish, verdict, need, tally}
use Rattle.model.specs.Sheets.Line.{line}
use Rattle.model.specs.State.{Order, Worker, State, fresh, last_number, row_at, worker_at, mark_at, is_empty, oldest_of, is_on, on_number, is_held, is_parked, is_held_on, with_worker, in_status, status_at, posted_at, orders_at, intention_at}

-- an accepted answer leaves its own state, and a refusal leaves the state as it was
abbrev pub kept : {A : Type 0} → Result A CallFault → State → (A → State) → State
kept (Ok x) s leaves = leaves x
kept (Err fault) s leaves = s

-- ⟨ append ⟩

-- the index of the first access whose mode the rule does not know, or the count of accesses
abbrev pub known_modes_of : RuleMeaning → List Access → ℕ
known_modes_of r accesses = prefix_len (λ a. nat_lt a.mode r.modes) accesses

-- the index of the first access whose cell is above 1,023, or the count of accesses
abbrev pub known_cells_of : List Access → ℕ
known_cells_of accesses = prefix_len (λ a. nat_le a.cell 1023) accesses

abbrev pub append_answer : Setup → State → ℕ → List Access → Result ℕ CallFault
append_answer P s snapshot accesses =
    refuse (not (within 1 8 (length accesses))) (AccessCount (length accesses))
    (refuse (nat_lt (last_number s) snapshot) (SnapshotAhead (last_number s))
    (refuse (nat_lt (known_modes_of P.rule accesses) (length accesses)) (UnknownMode (known_modes_of P.rule accesses))
    (refuse (nat_lt (known_cells_of accesses) (length accesses)) (UnknownCell (known_cells_of accesses))
    (refuse (nat_le 512 (length s.rows)) LogFull
    (Ok (last_number s + 1))))))

abbrev pub append_leaves : State → ℕ → List Access → State
append_leaves s snapshot accesses = record s {
  rows = s.rows ++ record { intention = record { snapshot = snapshot; accesses = accesses }; verdict = Undecided } ∷ [];
}

abbrev pub append_after : Setup → State → ℕ → List Access → State
append_after P s snapshot accesses = kept (append_answer P s snapshot accesses) s (λ _. append_leaves s snapshot accesses)

-- ⟨ assign ⟩

-- the lowest unassigned number, its intention, and the worker that takes it
abbrev pub next_number : State → ℕ
next_number s = s.assigned + 1

abbrev pub next_intention : State → Intention
next_intention s = intention_at s (next_number s)

abbrev pub next_worker : Setup → State → ℕ
next_worker P s = worker P.map (next_intention s)

abbrev pub assign_answer : Setup → State → Result (ℕ × ℕ) CallFault
assign_answer P s =
    refuse (nat_le (last_number s) s.assigned) (NoneUnassigned (last_number s))
    (refuse (nat_le 16 (length (orders_at s (next_worker P s)))) (WorkerFull (next_worker P s))
    (Ok (next_number s, next_worker P s)))

-- what the next order needs from worker v, by the last numbers that are stored
abbrev pub wanted : MapMeaning → State → ℕ → ℕ
wanted m s v =
    cond (v == 0)
    (cond (is_joint m (next_intention s)) 0 (slice_index s.joints (worker m (next_intention s))))
    (cond (is_joint m (next_intention s) && touches m (next_intention s) v) (slice_index s.plains v) 0)

abbrev pub next_order : MapMeaning → State → Order
next_order m s = record { number = next_number s; needs = map (wanted m s) (range_with_len 0 16) }

abbrev pub pushed : Order → Worker → Worker
pushed o x = record x { orders = x.orders ++ o ∷ [] }

-- a joint order moves the last joint number of each partition that it touches
abbrev pub joints_after_of : MapMeaning → State → List ℕ
joints_after_of m s = cond (is_joint m (next_intention s)) (map (λ p. cond (touches m (next_intention s) p) (next_number s) (slice_index s.joints p)) (range_with_len 0 16)) s.joints

-- a plain order moves the last plain number of its worker
abbrev pub plains_after_of : MapMeaning → State → List ℕ
plains_after_of m s = cond (is_joint m (next_intention s)) s.plains (slice_set s.plains (worker m (next_intention s)) (next_number s))

abbrev pub assign_leaves : Setup → State → State
assign_leaves P s = record s {
  assigned = next_number s;
  workers = slice_set s.workers (next_worker P s) (pushed (next_order P.map s) (worker_at s.workers (next_worker P s)));
  joints = joints_after_of P.map s;
  plains = plains_after_of P.map s;
}

abbrev pub assign_after : Setup → State → State
assign_after P s = kept (assign_answer P s) s (λ _. assign_leaves P s)

-- ⟨ begin ⟩

abbrev pub oldest_at : State → ℕ → Order
oldest_at s w = oldest_of (orders_at s w)

-- worker v has not posted what the order needs from it
abbrev pub lacks : State → Order → ℕ → Bool
lacks s o v = nat_lt (posted_at s v) (slice_index o.needs v)

abbrev pub begin_answer : Setup → State → ℕ → Result (ℕ × ℕ) CallFault
begin_answer P s w =
    refuse (nat_lt P.map.partitions w) (UnknownWorker w)
    (refuse (is_on (status_at s w)) (WorkerOpen (on_number (status_at s w)))
    (refuse (is_empty (orders_at s w)) (NoOrder w)
    (refuse (exists (lacks s (oldest_at s w)) (P.map.partitions + 1)) (NeedNotPosted (oldest_at s w).number)
    (Ok (w, (oldest_at s w).number)))))

abbrev pub begun : ℕ → Worker → Worker
begun k x = record x { status = Held k }

abbrev pub begin_after : Setup → State → ℕ → State
begin_after P s w = kept (begin_answer P s w) s (λ ticket. with_worker s w (begun ticket.1 (worker_at s.workers w)))

-- ⟨ park ⟩

-- a ticket fits while its worker is held on its number
abbrev pub fits : State → ℕ → ℕ → Bool
fits s w k = is_held_on k (status_at s w)

abbrev pub park_answer : State → ℕ → ℕ → Result ℕ CallFault
park_answer s w k =
    refuse (not (fits s w k)) (TicketUnfit w k)
    (Ok k)

abbrev pub park_after : State → ℕ → ℕ → State
park_after s w k = kept (park_answer s w k) s (λ j. with_worker s w (in_status (Parked j) (worker_at s.workers w)))

-- ⟨ resume ⟩

abbrev pub resume_answer : Setup → State → ℕ → Result (ℕ × ℕ) CallFault
resume_answer P s w =
    refuse (nat_lt P.map.partitions w) (UnknownWorker w)
    (refuse (not (is_parked (status_at s w))) (NotParked w)
    (Ok (w, on_number (status_at s w))))

abbrev pub resume_after : Setup → State → ℕ → State
resume_after P s w = kept (resume_answer P s w) s (λ ticket. with_worker s w (in_status (Held ticket.1) (worker_at s.workers w)))

-- ⟨ recall ⟩

abbrev pub recall_answer : Setup → State → ℕ → Result ℕ CallFault
recall_answer P s w =
    refuse (nat_lt P.map.partitions w) (UnknownWorker w)
    (refuse (not (is_held (status_at s w))) (NotHeld w)
    (Ok (on_number (status_at s w))))

abbrev pub recall_after : Setup → State → ℕ → State
recall_after P s w = kept (recall_answer P s w) s (λ k. with_worker s w (in_status (Parked k) (worker_at s.workers w)))

-- ⟨ finish ⟩

-- at the access's cell the mark of an earlier mode that clashes with it is above the snapshot
abbrev pub hit_by : RuleMeaning → List ℕ → ℕ → Access → ℕ → Bool
hit_by r marks snapshot a earlier = clashes r earlier a.mode && nat_lt snapshot (mark_at marks a.cell earlier)

abbrev pub hit : RuleMeaning → List ℕ → Intention → Bool
hit r marks x = any (λ a. exists (hit_by r marks x.snapshot a) r.modes) x.accesses

-- whether number k commits by the marks that stand now: an intention that saw all before it needs no look
abbrev pub passes : Setup → State → ℕ → Bool
passes P s k = (intention_at s k).snapshot + 1 == k || not (hit P.rule s.marks (intention_at s k))

-- the answer but for the clash that an abort names
abbrev pub finish_answer : Setup → State → ℕ → ℕ → Result (ℕ × Verdict) CallFault
finish_answer P s w k =
    refuse (not (fits s w k)) (TicketUnfit w k)
    (Ok (k, decided (passes P s k)))

-- the marks with number k at each of the accesses
unfoldable pub marking : ℕ → List Access → List ℕ → List ℕ
marking k [] marks = marks
marking k (a ∷ rest) marks = marking k rest (slice_set marks (4 * a.cell + a.mode) k)

-- only a commit marks
abbrev pub marks_after : Setup → State → ℕ → List ℕ
marks_after P s k = cond (passes P s k) (marking k (intention_at s k).accesses s.marks) s.marks

-- the worker posts the number, drops the order and is idle
abbrev pub posting : ℕ → Worker → Worker
posting k x = record { status = Idle; posted = k; orders = drop 1 x.orders }

abbrev pub finish_leaves : Setup → State → ℕ → ℕ → State
finish_leaves P s w k = record s {
  rows = slice_set s.rows (k - 1) (record { intention = intention_at s k; verdict = decided (passes P s k) });
  finished = s.finished + 1;
  workers = slice_set s.workers w (posting k (worker_at s.workers w));
  marks = marks_after P s k;
}

abbrev pub finish_after : Setup → State → ℕ → ℕ → State
finish_after P s w k = kept (finish_answer P s w k) s (λ _. finish_leaves P s w k)

abbrev pub verdict_of : Outcome → Verdict
verdict_of Commit = Committed
verdict_of (Abort clash) = Aborted

-- a clash that the marks show: at a cell that k accesses, a mark above its snapshot, of a mode that clashes
pub record Shown (P : Setup) (s : State) (k : ℕ) (x : Clash) : Type 0 where
  pub earlier : ℕ
  pub later : ℕ
  pub mine : has (intention_at s k) x.cell later ≡ true
  pub known : earlier < P.rule.modes
  pub clash : clashes P.rule earlier later ≡ true
  pub marked : x.number ≡ mark_at s.marks x.cell earlier
  pub past : (intention_at s k).snapshot < x.number

-- an abort names a clash that the marks show; which one is free
abbrev pub Names : Setup → State → ℕ → Result (ℕ × Outcome) CallFault → Type 0
Names P s k (Ok (j, Commit)) = Unit {0}
Names P s k (Ok (j, Abort clash)) = Shown P s k clash
Names P s k (Err fault) = Unit {0}

abbrev pub FinishAnswers : Setup → State → ℕ → ℕ → Result (ℕ × Outcome) CallFault → Type 0
FinishAnswers P s w k answer = (ok_as (λ x. (x.0, verdict_of x.1)) answer ≡ finish_answer P s w k) × Names P s k answer

-- ⟨ verdict ⟩

abbrev pub verdict_answer : State → ℕ → Result Verdict CallFault
verdict_answer s k =
    refuse (not (within 1 (last_number s) k)) (UnknownNumber (last_number s))
    (Ok (row_at s.rows k).verdict)

-- ⟨ need ⟩

abbrev pub need_answer : Setup → State → ℕ → ℕ → Result ℕ CallFault
need_answer P s w v =
    refuse (nat_lt P.map.partitions w) (UnknownWorker w)
    (refuse (nat_lt P.map.partitions v) (UnknownWorker v)
    (refuse (is_empty (orders_at s w)) (NoOrder w)
    (Ok (slice_index (oldest_at s w).needs v))))

-- ⟨ tally ⟩

abbrev pub queued_count_of : Worker → ℕ
queued_count_of x = length x.orders - cond (is_on x.status) 1 0

abbrev pub tally_answer : State → Result Tally CallFault
tally_answer s = Ok (record {
  appended = last_number s;
  assigned = s.assigned;
  finished = s.finished;
  «open» = count_by (λ x. is_on x.status) s.workers;
  queued = sum_by queued_count_of s.workers;
})

-- ⟨ every call ⟩

-- the answer that a call gives at a state
abbrev pub Gives : Setup → State → (c : Call) → Answer c → Type 0
Gives P s (append snapshot accesses) answer = answer ≡ append_answer P s snapshot accesses
Gives P s assign answer = answer ≡ assign_answer P s
Gives P s (begin w) answer = answer ≡ begin_answer P s w
Gives P s (park w k) answer = answer ≡ park_answer s w k
Gives P s (resume w) answer = answer ≡ resume_answer P s w
Gives P s (recall w) answer = answer ≡ recall_answer P s w
Gives P s (finish w k) answer = FinishAnswers P s w k answer
Gives P s (verdict k) answer = answer ≡ verdict_answer s k
Gives P s (need w v) answer = answer ≡ need_answer P s w v
Gives P s tally answer = answer ≡ tally_answer s

-- the state that a call leaves
abbrev pub after : Setup → State → Call → State
after P s (append snapshot accesses) = append_after P s snapshot accesses
after P s assign = assign_after P s
after P s (begin w) = begin_after P s w
after P s (park w k) = park_after s w k
after P s (resume w) = resume_after P s w
after P s (recall w) = recall_after P s w
after P s (finish w k) = finish_after P s w k
after P s (verdict k) = s
after P s (need w v) = s
after P s tally = s

abbrev pub call_of : Line → Call
call_of (line c answer) = c

-- the state that the calls of a sheet leave
abbrev pub state_of : Setup → List Line → State
state_of P [] = fresh
state_of P (l ∷ above) = after P (state_of P above) (call_of l)

abbrev pub GivesLine : Setup → State → Line → Type 0
GivesLine P s (line c answer) = Gives P s c answer

-- every answer on the sheet is the one that the calls give there
abbrev pub Sheet : Setup → List Line → Type 0
Sheet P [] = Unit {0}
Sheet P (l ∷ above) = GivesLine P (state_of P above) l × Sheet P above

-- the calls of the sheet, on a certifier just made, give its answers and leave the state
abbrev pub Leads : Setup → List Line → State → Type 0
Leads P sheet s = Sheet P sheet × (s ≡ state_of P sheet)
