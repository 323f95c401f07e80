-- The invariant: how what is stored hangs together with what was appended, assigned, granted and finished.
-- `it` has all intentions, those of the whole sheet, so that an append changes none of these facts.
-- Each part speaks of just the pieces that it is about, so that a call which leaves these alone keeps the part as it is.
use Rattle.std.proofs.Common.{◌≡◌, ℕ, suc, ◌+◌, ◌<◌, ◌≤◌, Bool, true, false, cond, not, ◌&&◌, eqb, leb, ◌⊎◌, List, [], ◌∷◌, length, get_or, sum_by, count_by}
use Rattle.std.specs.List.{AllByRecursion as All}
use Rattle.model.specs.declared.verdict.Verdict.TheVariants.{Undecided}
use Rattle.model.specs.Finding.{any}
use Rattle.model.specs.Words.{Intention, Setup, has, Shares, worker}
use Rattle.model.specs.Book.{commits, decided}
use Rattle.model.specs.Needs.{last_joint, last_plain, need_of}
use Rattle.model.specs.Sheets.{History, numbered, pairs}
use Rattle.model.specs.State.{Row, Order, Worker, State, row_at, worker_at, mark_at, is_empty, oldest_of, is_on, on_number}
use Rattle.model.proofs.Sharing.{Known}

-- `it` has the intentions that were appended so far
abbrev pub Agrees : (ℕ → Intention) → List (ℕ × Intention) → Type 0
Agrees it appended = (j : ℕ) → j ≤ length appended → numbered appended j ≡ it j

-- what each worker has posted
abbrev pub posts : (ℕ → Worker) → ℕ → ℕ
posts at w = (at w).posted

-- number j is finished: its worker has posted it or a later one
abbrev pub Fin : Setup → (ℕ → Intention) → (ℕ → ℕ) → ℕ → Type 0
Fin P it posted j = j ≤ posted (worker P.map (it j))

-- each earlier number that shares a partition with j is finished
abbrev pub Clear : Setup → (ℕ → Intention) → (ℕ → ℕ) → ℕ → Type 0
Clear P it posted j = (i : ℕ) → i < j → Shares P.map (it i) (it j) → Fin P it posted i

-- worker w takes no number above low and below high
abbrev pub NoneBetween : Setup → (ℕ → Intention) → ℕ → ℕ → ℕ → Type 0
NoneBetween P it w low high = (j : ℕ) → low < j → j < high → worker P.map (it j) ≡ w → ⊥

abbrev pub RightNeeds : Setup → (ℕ → Intention) → Order → Type 0
RightNeeds P it o = (v : ℕ) → v ≤ 15 → get_or o.needs v 0 ≡ need_of P.map it o.number v

-- the orders are the numbers above low, up to high, that worker w takes, in their order, each with its needs
abbrev pub Queue : Setup → (ℕ → Intention) → ℕ → ℕ → List Order → ℕ → Type 0
Queue P it w low [] high = (low ≤ high) × NoneBetween P it w low (suc high)
Queue P it w low (o ∷ rest) high = (low < o.number) × (worker P.map (it o.number) ≡ w) × NoneBetween P it w low o.number × RightNeeds P it o × Queue P it w o.number rest high

-- finished and committed, with an access of this mode at this cell
pub record Marked (P : Setup) (it : ℕ → Intention) (posted : ℕ → ℕ) (cell mode j : ℕ) : Type 0 where
  pub fin : Fin P it posted j
  pub good : commits P.rule it j ≡ true
  pub here : has (it j) cell mode ≡ true

-- the rows are the intentions, and have the book's verdicts of those that are finished
pub record Rows (P : Setup) (it : ℕ → Intention) (count : ℕ) (finished : List ℕ) (rows : List Row) : Type 0 where
  pub size : length rows ≡ count
  pub same : (k : ℕ) → 0 < k → k ≤ count → (row_at rows k).intention ≡ it k
  pub known : (k : ℕ) → 0 < k → k ≤ count → All (Known P) (it k).accesses
  pub verdict : (k : ℕ) → 0 < k → k ≤ count → (row_at rows k).verdict ≡ cond (any (eqb k) finished) (decided (commits P.rule it k)) Undecided

-- what an open worker is open on: its oldest order, whose way is clear
pub record Opened (P : Setup) (it : ℕ → Intention) (posted : ℕ → ℕ) (x : Worker) : Type 0 where
  pub some : is_empty x.orders ≡ false
  pub oldest : (oldest_of x.orders).number ≡ on_number x.status
  pub clear : Clear P it posted (on_number x.status)

pub record Staff (P : Setup) (it : ℕ → Intention) (assigned : ℕ) (at : ℕ → Worker) : Type 0 where
  pub queues : (w : ℕ) → Queue P it w (at w).posted (at w).orders assigned
  pub opens : (w : ℕ) → is_on (at w).status ≡ true → Opened P it (posts at) (at w)
  pub clear : (j : ℕ) → Fin P it (posts at) j → Clear P it (posts at) j

-- a mark is the highest finished committed number with that access
pub record Marks (P : Setup) (it : ℕ → Intention) (posted : ℕ → ℕ) (marks : List ℕ) : Type 0 where
  pub size : length marks ≡ 4096
  pub is : (c m : ℕ) → c ≤ 1023 → m < 4 → 0 < mark_at marks c m → Marked P it posted c m (mark_at marks c m)
  pub top : (c m j : ℕ) → c ≤ 1023 → m < 4 → 0 < j → Marked P it posted c m j → j ≤ mark_at marks c m

-- the last numbers are those of everything assigned so far
pub record Lasts (P : Setup) (it : ℕ → Intention) (assigned : ℕ) (joints plains : List ℕ) : Type 0 where
  pub joints_size : length joints ≡ 16
  pub plains_size : length plains ≡ 16
  pub joint : (p : ℕ) → p ≤ 15 → get_or joints p 0 ≡ last_joint P.map it p (suc assigned)
  pub plain : (p : ℕ) → 0 < p → p ≤ 15 → get_or plains p 0 ≡ last_plain P.map it p (suc assigned)

-- what the accepted lines say is what the workers show: what is posted, who is open, and on which number
pub record Told (P : Setup) (it : ℕ → Intention) (count : ℕ) (assigned granted : List (ℕ × ℕ)) (finished : List ℕ) (posted : ℕ → ℕ) (on : ℕ → Bool) (number : ℕ → ℕ) : Type 0 where
  pub done : (k : ℕ) → any (eqb k) finished ≡ true → (0 < k) × Fin P it posted k
  pub undone : (k : ℕ) → 0 < k → any (eqb k) finished ≡ false → posted (worker P.map (it k)) < k
  pub has : (w k : ℕ) → pairs w k assigned ≡ true → (0 < k) × (k ≤ count) × (worker P.map (it k) ≡ w)
  pub had : (k : ℕ) → 0 < k → k ≤ count → pairs (worker P.map (it k)) k assigned ≡ true
  pub began : (w k : ℕ) → pairs w k granted ≡ true → (0 < k) × (Fin P it posted k ⊎ ((on w ≡ true) × (number w ≡ k)))
  pub begun : (w : ℕ) → on w ≡ true → pairs w (number w) granted ≡ true

abbrev pub ToldOf : Setup → (ℕ → Intention) → ℕ → List (ℕ × ℕ) → List (ℕ × ℕ) → List ℕ → (ℕ → Worker) → Type 0
ToldOf P it count assigned granted finished at = Told P it count assigned granted finished (posts at) (λ w. is_on (at w).status) (λ w. on_number (at w).status)

-- an order that is granted and not finished
abbrev pub is_open_order : List (ℕ × ℕ) → List ℕ → ℕ × ℕ → Bool
is_open_order granted finished x = pairs x.0 x.1 granted && not (any (eqb x.1) finished)

-- the counts
pub record Counts (P : Setup) (it : ℕ → Intention) (assigned granted : List (ℕ × ℕ)) (finished : List ℕ) (ws : List Worker) : Type 0 where
  -- every order is held or finished
  pub load : sum_by (λ x. length x.orders) ws + length finished ≡ length assigned
  -- every assigned number stands once
  pub once : (k : ℕ) → 0 < k → count_by (λ x. eqb k x.1) assigned ≡ cond (leb k (length assigned)) 1 0
  pub homes : All (λ x. worker P.map (it x.1) ≡ x.0) assigned
  pub done : count_by (λ x. any (eqb x.1) finished) assigned ≡ length finished
  pub opened : count_by (is_open_order granted finished) assigned ≡ count_by (λ x. is_on x.status) ws

pub record Inv (P : Setup) (it : ℕ → Intention) (h : History) (s : State) : Type 0 where
  pub agree : Agrees it h.appended
  pub assigned : s.assigned ≡ length h.assigned
  pub finished : s.finished ≡ length h.finished
  pub bound : s.assigned ≤ length h.appended
  pub sixteen : length s.workers ≡ 16
  pub rows : Rows P it (length h.appended) h.finished s.rows
  pub staff : Staff P it s.assigned (worker_at s.workers)
  pub marks : Marks P it (posts (worker_at s.workers)) s.marks
  pub lasts : Lasts P it s.assigned s.joints s.plains
  pub told : ToldOf P it s.assigned h.assigned h.granted h.finished (worker_at s.workers)
  pub counts : Counts P it h.assigned h.granted h.finished s.workers
