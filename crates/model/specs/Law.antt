-- The law: what holds of every sheet of calls, and the theorem that says so. Assumes nothing.
use Rattle.std.specs.Prelude.{◌≡◌, ℕ, ◌+◌, ◌<◌, ◌≤◌, true, cond, ◌⊎◌, List, ◌∷◌, Ok, Err, Result}
use Rattle.terms.specs.Maps.{MapMeaning, LawfulMap}
use Rattle.terms.specs.Rules.{RuleMeaning, LawfulRule, clashes}
use Rattle.model.specs.Faults.{CallFault}
use Rattle.model.specs.declared.fault.CallFault.TheVariants.{NeedNotPosted}
use Rattle.model.specs.declared.verdict.Outcome.TheVariants.{Abort}
use Rattle.model.specs.declared.verdict.Verdict.TheVariants.{Undecided}
use Rattle.model.specs.Words.{Access, Setup, Lawful, has, worker}
use Rattle.model.specs.Book.{Verdict, commits}
use Rattle.model.specs.Needs.{need_of}
use Rattle.model.specs.Sheets.{Line, Outcome, Clash, Tally, Stood, history, is_finished, intention, one_at_a_time, appends, assigns, finishes, open_workers, queued_orders, HasOrder, Oldest, Lowest, OpenOn, Idle, Blocked}
use Rattle.model.specs.Sheets.Line.{line}
use Rattle.model.specs.Sheets.Call.{append, assign, begin, finish, verdict, need, tally}
use Rattle.model.specs.State.{State}
use Rattle.model.specs.Model.{Sheet, Leads, verdict_of}

-- a cell and an earlier committed number that together make k aborted
pub record Clashes (P : Setup) (sheet : List Line) (k : ℕ) (x : Clash) : Type 0 where
  -- a mode of the earlier number and one of k, both at the cell
  pub earlier : ℕ
  pub later : ℕ
  pub theirs : has (intention sheet x.number) x.cell earlier ≡ true
  pub mine : has (intention sheet k) x.cell later ≡ true
  pub clash : clashes P.rule earlier later ≡ true
  pub past : (intention sheet k).snapshot < x.number
  pub before : x.number < k
  pub committed : commits P.rule (intention sheet) x.number ≡ true

-- P has the rule and the map. Wherever a line stands on the sheet, `above` is what stood above it.
pub record Law (P : Setup) (sheet : List Line) : Type 0 where
  -- every answer, accepted or refused, is the one that the calls and the table give there
  pub answers : Sheet P sheet
  -- appends are numbered 1, 2, 3 and so on
  pub numbers :
      (above : List Line) (snapshot k : ℕ) (accesses : List Access) →
      Stood sheet (line (append snapshot accesses) (Ok k) ∷ above) → k ≡ appends above + 1
  -- assigns go through the numbers in order, each to the intention's own worker
  pub homes :
      (above : List Line) (k w : ℕ) →
      Stood sheet (line assign (Ok (k, w)) ∷ above) → (k ≡ assigns above + 1) × (w ≡ worker P.map (intention sheet k))
  -- a finish ends as the book of one-at-a-time verdicts says
  pub outcomes :
      (above : List Line) (w k j : ℕ) (outcome : Outcome) →
      Stood sheet (line (finish w k) (Ok (j, outcome)) ∷ above) → (j ≡ k) × (verdict_of outcome ≡ one_at_a_time P sheet k)
  -- the clash that an abort names is a real one, by the book
  pub clashes :
      (above : List Line) (w k j : ℕ) (x : Clash) →
      Stood sheet (line (finish w k) (Ok (j, Abort x)) ∷ above) → Clashes P sheet k x
  -- a verdict is the book's once a finish of the number stands above it, and until then undecided
  pub verdicts :
      (above : List Line) (k : ℕ) (v : Verdict) →
      Stood sheet (line (verdict k) (Ok v) ∷ above) → v ≡ cond (is_finished (history above) k) (one_at_a_time P sheet k) Undecided
  -- a worker with an order has an oldest one
  pub oldest : (above : List Line) (w i : ℕ) → Stood sheet above → HasOrder above w i → (k : ℕ) × Oldest above w k
  -- begin on an idle worker with an order waits exactly if an earlier unfinished intention touches a partition
  -- that its oldest order touches, and else is granted
  pub begins :
      (above : List Line) (w k : ℕ) (answer : Result (ℕ × ℕ) CallFault) →
      Stood sheet (line (begin w) answer ∷ above) → Idle above w → Oldest above w k →
      ((answer ≡ Err (NeedNotPosted k)) × Blocked P above k) ⊎ ((answer ≡ Ok (w, k)) × (Blocked P above k → ⊥))
  -- somebody can always go on: if there is an order, the worker of the lowest one is open on it, or begin there is granted
  pub goes_on :
      (above : List Line) (u i : ℕ) → Stood sheet above → HasOrder above u i →
      (w k : ℕ) × Lowest above w k × (OpenOn above w k ⊎ Sheet P (line (begin w) (Ok (w, k)) ∷ above))
  -- a tally counts the accepted lines above it, the open workers and the queued orders
  pub tallies :
      (above : List Line) (x : Tally) → Stood sheet (line tally (Ok x) ∷ above) →
      x ≡ record { appended = appends above; assigned = assigns above; finished = finishes above; «open» = open_workers P above; queued = queued_orders above }
  -- after every line, assigned = finished + open + queued
  pub balance : (above : List Line) → Stood sheet above → assigns above ≡ finishes above + open_workers P above + queued_orders above
  -- a need is that of the worker's oldest order, by its meaning over the appends
  pub needs :
      (above : List Line) (w v n : ℕ) → Stood sheet (line (need w v) (Ok n) ∷ above) →
      (k : ℕ) × Oldest above w k × (n ≡ need_of P.map (intention sheet) k v)

-- the theorem: for every rule and every map within their laws, every sheet that the calls give has the law
abbrev pub CertifierStands : Type 0
CertifierStands = (P : Setup) → Lawful P → (sheet : List Line) → Sheet P sheet → Law P sheet

-- an accepted finish on the sheet gave number k the verdict v
abbrev pub Decided : List Line → ℕ → Verdict → Type 0
Decided sheet k v = (above : List Line) × (w j : ℕ) × (outcome : Outcome) × Stood sheet (line (finish w k) (Ok (j, outcome)) ∷ above) × (verdict_of outcome ≡ v)

-- two units with the same rule, whatever their maps and the order in which their workers ran, that were appended the same
-- intentions up to k, and both finished k, gave it the same verdict
abbrev pub UnitsAgree : Type 0
UnitsAgree =
    (rule : RuleMeaning) (here there : MapMeaning) → LawfulRule rule → LawfulMap here → LawfulMap there →
    (one other : List Line) → Sheet (record { rule = rule; map = here }) one → Sheet (record { rule = rule; map = there }) other →
    (k : ℕ) → ((j : ℕ) → j ≤ k → intention one j ≡ intention other j) →
    (v v' : Verdict) → Decided one k v → Decided other k v' → v ≡ v'

-- on every sheet that leads to the state s the line may stand next, it leads to t, and the law holds of the sheet with it
abbrev pub Continues : Setup → State → Line → State → Type 0
Continues P s l t = (sheet : List Line) → Leads P sheet s → Leads P (l ∷ sheet) t × Law P (l ∷ sheet)
