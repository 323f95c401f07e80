-- The theorem: every sheet that the calls give has the law. Field by field, from the invariant at the line's moment.
use Rattle.std.proofs.Common.{◌≡◌, ℕ, ◌+◌, true, cond, not, ltb, leb, ◌⊎◌, List, [], ◌∷◌, ◌++◌, get_or, Ok, Err, Result, sym, refl, ap, ◌∙◌, subst, inl, inr, arith, append_assoc}
use Rattle.std.proofs.lemmas.Bool.{both_ways, ltb-false, leb-true, cases_Bool, and_parts, not-false}
use Rattle.terms.specs.Numbers.{within}
use Rattle.model.specs.Faults.{CallFault}
use Rattle.model.specs.declared.fault.CallFault.TheVariants.{UnknownWorker, NoOrder, NeedNotPosted, UnknownNumber}
use Rattle.model.specs.declared.verdict.Outcome.TheVariants.{Abort}
use Rattle.model.specs.declared.verdict.Verdict.TheVariants.{Undecided}
use Rattle.model.specs.Words.{Intention, Setup, Lawful, has, worker}
use Rattle.model.specs.Book.{Verdict, commits, decided}
use Rattle.model.specs.Needs.{need_of}
use Rattle.model.specs.Sheets.{Line, Outcome, Clash, Tally, Stood, history, is_finished, intention, one_at_a_time, appends, assigns, finishes, open_workers, queued_orders, HasOrder, Oldest, Lowest, OpenOn, Idle, Blocked}
use Rattle.model.specs.Sheets.Line.{line}
use Rattle.model.specs.Sheets.Call.{assign, begin, finish, verdict, need, tally}
use Rattle.model.specs.State.{State, last_number, row_at, mark_at, is_empty, oldest_of, is_on, status_at, orders_at, intention_at}
use Rattle.model.specs.Model.{next_number, next_worker, begin_answer, oldest_at, fits, verdict_of, Shown, state_of, GivesLine, Sheet}
use Rattle.model.specs.Law.{Clashes, Law, CertifierStands, Decided, UnitsAgree}
use Rattle.model.proofs.Found.{passed, ok_same}
use Rattle.model.proofs.Sharing.{has_known, has_shares}
use Rattle.model.proofs.Booked.{commits_same}
use Rattle.model.proofs.Invariant.{Inv}
use Rattle.model.proofs.Oldest.{head_assigned, head_needs}
use Rattle.model.proofs.Appending.{append_passed}
use Rattle.model.proofs.Assigning.{assign_passed}
use Rattle.model.proofs.Finishing.{own_positive, own_there, own_row, own_after, verdict_is}
use Rattle.model.proofs.Following.{finish_passed, sheet_then, inv_then, inv_now}
use Rattle.model.proofs.Holding.{has_lowest, stored_oldest, some_stored, oldest_stored, on_open, open_on, open_is, queued_is, balanced, waits_or_granted}

-- a clash that the marks show is one by the book
shown_clashes : (P : Setup) (L : Lawful P) (sheet above : List Line) (s : State) (I : Inv P (intention sheet) (history above) s) (w k : ℕ) → fits s w k ≡ true → (x : Clash) → Shown P s k x → Clashes P sheet k x
shown_clashes P L sheet above s I w k f x S =
    let row : intention_at s k ≡ intention sheet k = own_row P L (intention sheet) (history above) s I w k f in
    let mine : has (intention sheet k) x.cell S.later ≡ true = subst (λ (y : Intention). has y x.cell S.later ≡ true) row S.mine in
    let (_, cell) = has_known P (intention sheet k) x.cell S.later (I.rows.known k (own_positive P L (intention sheet) (history above) s I w k f) (own_there P L (intention sheet) (history above) s I w k f)) mine in
    let M = I.marks.is x.cell S.earlier cell (omega (arith, S.known, L.rule.few)) (omega (arith, S.marked, S.past)) in
    let before = own_after P L (intention sheet) (history above) s I w k f (mark_at s.marks x.cell S.earlier) M.fin (has_shares P.map (intention sheet k) (intention sheet (mark_at s.marks x.cell S.earlier)) x.cell S.later S.earlier mine M.here) in
    record {
      earlier = S.earlier;
      later = S.later;
      mine = mine;
      clash = S.clash;
      theirs = subst (λ (n : ℕ). has (intention sheet n) x.cell S.earlier ≡ true) (sym S.marked) M.here;
      past = omega (arith, S.past, ap (λ (y : Intention). y.snapshot) row);
      before = omega (arith, before, S.marked);
      committed = subst (λ (n : ℕ). commits P.rule (intention sheet) n ≡ true) (sym S.marked) M.good;
    }

module _ (P : Setup) (L : Lawful P) (sheet : List Line) (sh : Sheet P sheet) where
  -- the line and what stood above it
  up : (l : Line) (above : List Line) → Stood sheet (l ∷ above) → Stood sheet above
  up l above (below, e) = (below ++ l ∷ [], e ∙ sym (append_assoc below (l ∷ []) above))

  given : (l : Line) (above : List Line) → Stood sheet (l ∷ above) → GivesLine P (state_of P above) l
  given l above st = (sheet_then P L sheet sh (l ∷ above) st).0

  I : (l : Line) (above : List Line) → Stood sheet (l ∷ above) → Inv P (intention sheet) (history above) (state_of P above)
  I l above st = inv_then P L sheet sh above (up l above st)

  -- the same at the intentions that stood then
  then : (above : List Line) → Stood sheet above → Inv P (intention above) (history above) (state_of P above)
  then above st = inv_now P L above (sheet_then P L sheet sh above st)

  homes : (above : List Line) (k w : ℕ) → Stood sheet (line assign (Ok (k, w)) ∷ above) → (k ≡ assigns above + 1) × (w ≡ worker P.map (intention sheet k))
  homes above k w st =
      let J = I (line assign (Ok (k, w))) above st in
      let (less, e) = assign_passed P (state_of P above) (k, w) (given (line assign (Ok (k, w))) above st) in
      let ek : k ≡ next_number (state_of P above) = ap (λ (x : ℕ × ℕ). x.0) e in
      let ew : w ≡ next_worker P (state_of P above) = ap (λ (x : ℕ × ℕ). x.1) e in
      (omega (arith, J.assigned), ew ∙ ap (worker P.map) (J.rows.same (next_number (state_of P above)) (omega arith) (omega (arith, J.rows.size)) ∙ ap (intention sheet) (sym ek)))

  outcomes : (above : List Line) (w k j : ℕ) (outcome : Outcome) → Stood sheet (line (finish w k) (Ok (j, outcome)) ∷ above) → (j ≡ k) × (verdict_of outcome ≡ one_at_a_time P sheet k)
  outcomes above w k j outcome st =
      let (f, e) = finish_passed P (state_of P above) w k (j, verdict_of outcome) (given (line (finish w k) (Ok (j, outcome))) above st).0 in
      (ap (λ (x : ℕ × Verdict). x.0) e, ap (λ (x : ℕ × Verdict). x.1) e ∙ ap decided (verdict_is P L (intention sheet) (history above) (state_of P above) (I (line (finish w k) (Ok (j, outcome))) above st) w k f))

  clashes : (above : List Line) (w k j : ℕ) (x : Clash) → Stood sheet (line (finish w k) (Ok (j, Abort x)) ∷ above) → Clashes P sheet k x
  clashes above w k j x st =
      let g = given (line (finish w k) (Ok (j, Abort x))) above st in
      let (f, _) = finish_passed P (state_of P above) w k (j, verdict_of (Abort x)) g.0 in
      shown_clashes P L sheet above (state_of P above) (I (line (finish w k) (Ok (j, Abort x))) above st) w k f x g.1

  verdicts : (above : List Line) (k : ℕ) (v : Verdict) → Stood sheet (line (verdict k) (Ok v) ∷ above) → v ≡ cond (is_finished (history above) k) (one_at_a_time P sheet k) Undecided
  verdicts above k v st =
      let s = state_of P above in
      let J = I (line (verdict k) (Ok v)) above st in
      let (c, e) = passed (not (within 1 (last_number s) k)) (UnknownNumber (last_number s)) (Ok (row_at s.rows k).verdict) v (given (line (verdict k) (Ok v)) above st) in
      let (a, b) = and_parts (leb 1 k) (leb k (last_number s)) (not-false _ c) in
      ok_same v (row_at s.rows k).verdict e ∙ J.rows.verdict k (omega (arith, leb-true 1 k a)) (omega (arith, leb-true k (last_number s) b, J.rows.size))

  oldest : (above : List Line) (w i : ℕ) → Stood sheet above → HasOrder above w i → (k : ℕ) × Oldest above w k
  oldest above w i st h =
      let J = then above st in
      (_, stored_oldest P (intention above) above (state_of P above) J w (some_stored P (intention above) above (state_of P above) J w i h))

  begins : (above : List Line) (w k : ℕ) (answer : Result (ℕ × ℕ) CallFault) → Stood sheet (line (begin w) answer ∷ above) → Idle above w → Oldest above w k →
      ((answer ≡ Err (NeedNotPosted k)) × Blocked P above k) ⊎ ((answer ≡ Ok (w, k)) × (Blocked P above k → ⊥))
  begins above w k answer st idle old =
      let g : answer ≡ begin_answer P (state_of P above) w = given (line (begin w) answer) above st in
      elim (waits_or_granted P L above (state_of P above) (then above (up (line (begin w) answer) above st)) w k old idle) [
        | inl (e, b) ↦ inl (g ∙ e, b)
        | inr (e, b) ↦ inr (g ∙ e, b)
      ]

  lowest_goes_on : (above : List Line) (w k : ℕ) → Stood sheet above → Lowest above w k → OpenOn above w k ⊎ Sheet P (line (begin w) (Ok (w, k)) ∷ above)
  lowest_goes_on above w k st (h, lowest) =
      let s = state_of P above in
      let J = then above st in
      let old : Oldest above w k = (h, λ j l g. lowest j w l g) in
      let is = oldest_stored P (intention above) above (state_of P above) J w k old in
      elim (cases_Bool (is_on (status_at s w))) [
        | inl o ↦ inl (subst (OpenOn above w) (sym (J.staff.opens w o).oldest ∙ is) (on_open P (intention above) above (state_of P above) J w o))
        | inr o ↦ elim (waits_or_granted P L above (state_of P above) J w k old (λ j p. both_ways _ o (open_on P (intention above) above (state_of P above) J w j p))) [
          | inl (_, (j, l, (p, _, u), _)) ↦
              let here = head_assigned P (intention above) (history above) (state_of P above) J w k (some_stored P (intention above) above (state_of P above) J w k h) is in
              absurd (lowest j (worker P.map (intention above j)) l (J.told.had j p (omega (arith, here)), u))
          | inr (e, _) ↦ inr (sym e, sheet_then P L sheet sh above st)
        ]
      ]

  goes_on : (above : List Line) (u i : ℕ) → Stood sheet above → HasOrder above u i → (w k : ℕ) × Lowest above w k × (OpenOn above w k ⊎ Sheet P (line (begin w) (Ok (w, k)) ∷ above))
  goes_on above u i st order =
      let (w, k, low) = has_lowest P (intention above) above (state_of P above) (then above st) u i order in
      (w, k, low, lowest_goes_on above w k st low)

  tallies : (above : List Line) (x : Tally) → Stood sheet (line tally (Ok x) ∷ above) →
      x ≡ record { appended = appends above; assigned = assigns above; finished = finishes above; «open» = open_workers P above; queued = queued_orders above }
  tallies above x st =
      let J = I (line tally (Ok x)) above st in
      let o = open_is P (intention sheet) above (state_of P above) J L in
      let q = queued_is P (intention sheet) above (state_of P above) J in
      ok_same x _ (given (line tally (Ok x)) above st)
      ∙ (λ i. record { appended = J.rows.size i; assigned = J.assigned i; finished = J.finished i; «open» = o i; queued = q i })

  needs : (above : List Line) (w v n : ℕ) → Stood sheet (line (need w v) (Ok n) ∷ above) → (k : ℕ) × Oldest above w k × (n ≡ need_of P.map (intention sheet) k v)
  needs above w v n st =
      let s = state_of P above in
      let J = I (line (need w v) (Ok n)) above st in
      let (c1, e1) = passed (ltb P.map.partitions w) (UnknownWorker w) _ n (given (line (need w v) (Ok n)) above st) in
      let (c2, e2) = passed (ltb P.map.partitions v) (UnknownWorker v) _ n e1 in
      let (c3, e3) = passed (is_empty (orders_at s w)) (NoOrder w) _ n e2 in
      let k = (oldest_of (orders_at s w)).number in (
        (oldest_of (orders_at s w)).number,
        stored_oldest P (intention sheet) above (state_of P above) J w c3,
        ok_same n (get_or (oldest_at s w).needs v 0) e3 ∙ head_needs P (intention sheet) (history above) (state_of P above) J w k c3 refl v (omega (arith, ltb-false _ _ c2, L.map.few)),
      )

  pub holds : Law P sheet
  holds = record {
    answers = sh;
    numbers = λ above snapshot k accesses st. omega (arith, (append_passed P (state_of P above) snapshot accesses k (given _ above st)).0, (I _ above st).rows.size);
    homes = homes;
    outcomes = outcomes;
    clashes = clashes;
    verdicts = verdicts;
    oldest = oldest;
    begins = begins;
    goes_on = goes_on;
    tallies = tallies;
    balance = λ above st. balanced P (intention above) above (state_of P above) (then above st) L;
    needs = needs;
  }

pub certifier_stands_lem : CertifierStands
certifier_stands_lem P L sheet sh = holds P L sheet sh

-- what was decided is the book's
decided_is : (P : Setup) → Lawful P → (sheet : List Line) → Sheet P sheet → (k : ℕ) (v : Verdict) → Decided sheet k v → v ≡ one_at_a_time P sheet k
decided_is P L sheet sh k v (above, w, j, outcome, stood, e) = sym e ∙ (outcomes P L sheet sh above w k j outcome stood).1

pub units_agree_lem : UnitsAgree
units_agree_lem rule here there r h t one other sh sh' k same v v' d d' =
    decided_is (record { rule = rule; map = here }) (record { rule = r; map = h }) one sh k v d
    ∙ ap decided (commits_same rule (intention one) (intention other) k same)
    ∙ sym (decided_is (record { rule = rule; map = there }) (record { rule = r; map = t }) other sh' k v' d')
