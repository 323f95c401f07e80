-- An accepted finish decides as the book does, and keeps the invariant.
use Rattle.std.proofs.Common.{◌≡◌, ℕ, ◌+◌, ◌-◌, ◌*◌, ◌<◌, ◌≤◌, true, false, cond, not, ◌||◌, eqb, ◌≢◌, ◌⊎◌, List, [], ◌∷◌, length, set, sym, refl, ap, ◌∙◌, subst, inl, inr, arith, length-set, get_or-set_other, get_or-set_same}
use Rattle.std.specs.List.{AllByRecursion as All}
use Rattle.std.proofs.ByRecursion.{All-weaker}
use Rattle.std.proofs.lemmas.List.Sums.{sum_by-set}
use Rattle.std.proofs.lemmas.Bool.{both_ways, ltb-true, lt-ltb, eqb-true, eqb-false, eq-eqb, ne_eqb, cases_eq, cases_Bool, cases_lt, and_parts, and_from, or_cases, or_parts, not-true, not-false, cond-true, cond-false, cond_both}
use Rattle.terms.specs.Rules.{clashes}
use Rattle.model.specs.declared.status.Status.TheVariants.{Idle, Held, Parked}
use Rattle.model.specs.declared.verdict.Verdict.TheVariants.{Undecided}
use Rattle.model.specs.Finding.{any, exists}
use Rattle.model.specs.Words.{Access, Intention, Setup, Lawful, is_at, has, Shares, worker}
use Rattle.model.specs.Book.{commits, decided}
use Rattle.model.specs.Sheets.{History, entered, pairs}
use Rattle.model.specs.Sheets.Event.{finished}
use Rattle.model.specs.State.{Row, Status, Worker, State, no_row, no_worker, row_at, worker_at, mark_at, is_empty, oldest_of, is_on, on_number, is_held_on, status_at, posted_at, orders_at, intention_at}
use Rattle.model.specs.Model.{fits, hit_by, hit, passes, marking, marks_after, posting, finish_leaves}
use Rattle.model.proofs.Found.{any_in, any_some, exists_some, exists_from, at_set, put, put_same, put_other, put_both}
use Rattle.model.proofs.Sharing.{Known, is_at_lem, at_itself, has_known, has_shares, conflict_some, conflict_from}
use Rattle.model.proofs.Booked.{book_aborted, book_committed}
use Rattle.model.proofs.Counting.{sum_split}
use Rattle.model.proofs.Invariant.{posts, Fin, Clear, Queue, Marked, Opened, Rows, Staff, Marks, ToldOf, is_open_order, Counts, Inv}
use Rattle.model.proofs.Oldest.{drop_one, head_late, head_home, head_rest, head_assigned, head_unfinished, head_undone, head_once, head_first}
use Rattle.model.proofs.Moving.{seen, on_low}

pub held_on : (k : ℕ) (x : Status) → is_held_on k x ≡ true → (is_on x ≡ true) × (on_number x ≡ k)
held_on k Idle h = absurd (both_ways false refl h)
held_on k (Held j) h = (refl, eqb-true j k h)
held_on k (Parked j) h = absurd (both_ways false refl h)

pub any-cons : (j k : ℕ) (xs : List ℕ) → any (eqb j) (k ∷ xs) ≡ (eqb j k || any (eqb j) xs)
unfolding any
any-cons j k xs = refl

-- ⟨ marks ⟩

marking-length : (k : ℕ) (xs : List Access) (marks : List ℕ) → length (marking k xs marks) ≡ length marks
unfolding marking
marking-length k [] marks = refl
marking-length k (a ∷ xs) marks = marking-length k xs (set marks (4 * a.cell + a.mode) k) ∙ length-set _ _ _

-- 4 c + m tells c and m apart
marking_at : (P : Setup) (L : Lawful P) (k c m : ℕ) (xs : List Access) (marks : List ℕ) → length marks ≡ 4096 → All (Known P) xs → c ≤ 1023 → m < 4 → mark_at (marking k xs marks) c m ≡ cond (any (is_at c m) xs) k (mark_at marks c m)
unfolding marking any
marking_at P L k c m [] marks len f hc hm = refl
marking_at P L k c m (a ∷ xs) marks len f hc hm =
    let few : a.mode < 4 = omega (arith, f.0.0, L.rule.few) in
    marking_at P L k c m xs (set marks (4 * a.cell + a.mode) k) (length-set _ _ _ ∙ len) f.1 hc hm
    ∙ elim (cases_Bool (is_at c m a)) [
      | inl t ↦
          let (x, y) = is_at_lem c m a t in
          let e : 4 * c + m ≡ 4 * a.cell + a.mode = omega arith in
          rw (t, e, get_or-set_same marks (4 * a.cell + a.mode) k 0 (omega (arith, len, few, f.0.1))) (cond_both (any (is_at c m) xs) k k (λ n. n ≡ k) (λ _. refl) (λ _. refl))
      | inr t ↦
          let ne : 4 * c + m ≢ 4 * a.cell + a.mode = λ e. both_ways (is_at c m a) t (and_from _ _ (eq-eqb a.cell c (omega (arith, few))) (eq-eqb a.mode m (omega (arith, few)))) in
          rw (t, get_or-set_other marks (4 * a.cell + a.mode) (4 * c + m) k 0 ne)
    ]

module _ (P : Setup) (L : Lawful P) (it : ℕ → Intention) (h : History) (s : State) (I : Inv P it h s) (w k : ℕ) (held : fits s w k ≡ true) where
  abbrev at : ℕ → Worker
  at = worker_at s.workers

  abbrev x : Worker
  x = posting k (worker_at s.workers w)

  on : is_on (status_at s w) ≡ true
  on = (held_on k (status_at s w) held).0

  number : on_number (status_at s w) ≡ k
  number = (held_on k (status_at s w) held).1

  low : w ≤ 15
  low = on_low P it h s I w on

  some : is_empty (orders_at s w) ≡ false
  some = (I.staff.opens w on).some

  oldest : (oldest_of (orders_at s w)).number ≡ k
  oldest = (I.staff.opens w on).oldest ∙ number

  clear : Clear P it (posted_at s) k
  clear = rw number at (I.staff.opens w on).clear

  late : posted_at s w < k
  late = head_late P it h s I w k some oldest

  home : worker P.map (it k) ≡ w
  home = head_home P it h s I w k some oldest

  pub own_positive : 0 < k
  own_positive = omega (arith, late)

  pub own_there : k ≤ length h.appended
  own_there = omega (arith, head_assigned P it h s I w k some oldest, I.bound)

  pub own_row : intention_at s k ≡ it k
  own_row = I.rows.same k own_positive own_there

  known : All (Known P) (it k).accesses
  known = I.rows.known k own_positive own_there

  unfinished : Fin P it (posted_at s) k → ⊥
  unfinished = head_unfinished P it h s I w k some oldest

  -- a finished number that shares a partition with k is below it
  pub own_after : (j : ℕ) → Fin P it (posted_at s) j → Shares P.map (it k) (it j) → j < k
  own_after j f sh =
      elim (cases_lt k j) [
        | inl l ↦ absurd (unfinished (I.staff.clear j f k l sh))
        | inr l ↦ elim (cases_eq j k) [ inl e ↦ absurd (unfinished (rw e at f)) | inr e ↦ omega arith ]
      ]

  -- ⟨ the verdict ⟩
  -- where a number commits by the marks, no committed one past its snapshot conflicts with it
  not_aborted : passes P s k ≡ true → commits P.rule it k ≡ false → ⊥
  unfolding has
  not_aborted t b =
      let (e, past, before, good, conflict) = book_aborted P.rule it k own_positive b in
      let (c, i, j, theirs, mine, clash) = conflict_some P.rule (it e) (it k) conflict in
      let f : Fin P it (posts at) e = clear e before (has_shares P.map (it e) (it k) c i j theirs mine) in
      let (low-mode, low-cell) = has_known P (it e) c i (I.rows.known e (omega (arith, past)) (omega (arith, before, own_there))) theirs in
      let top : e ≤ mark_at s.marks c i = I.marks.top c i e low-cell (omega (arith, low-mode, L.rule.few)) (omega (arith, past)) (record { fin = f; good = good; here = theirs }) in
      let t' : (eqb ((it k).snapshot + 1) k || not (hit P.rule s.marks (it k))) ≡ true = rw own_row at t in
      elim (or_cases (eqb ((it k).snapshot + 1) k) _ t') [
        | inl early ↦ omega (arith, eqb-true _ _ early, past, before)
        | inr look ↦
            let (a, is, up) = any_some (is_at c j) (it k).accesses mine in
            let (ac, am) = is_at_lem c j a is in
            both_ways _ (not-true _ look) (up (λ a. exists (hit_by P.rule s.marks (it k).snapshot a) P.rule.modes)
            (exists_from _ P.rule.modes i low-mode (rw (ac, am) (and_from _ _ clash (lt-ltb _ _ (omega (arith, past)))))))
      ]

  -- where it aborts by the marks, one does
  not_committed : passes P s k ≡ false → commits P.rule it k ≡ true → ⊥
  unfolding has
  not_committed t b =
      let t' : (eqb ((it k).snapshot + 1) k || not (hit P.rule s.marks (it k))) ≡ false = rw own_row at t in
      let (_, look) = or_parts (eqb ((it k).snapshot + 1) k) _ t' in
      let (a, kn, hits, up) = any_in (Known P) _ (it k).accesses known (not-false _ look) in
      let (e, l, both) = exists_some _ P.rule.modes hits in
      let (clash, past) = and_parts (clashes P.rule e a.mode) _ both in
      let past' : (it k).snapshot < mark_at s.marks a.cell e = ltb-true _ _ past in
      let M = I.marks.is a.cell e kn.1 (omega (arith, L.rule.few)) (omega arith) in
      let mine : has (it k) a.cell a.mode ≡ true = up (is_at a.cell a.mode) (at_itself a) in
      let j = mark_at s.marks a.cell e in
      book_committed P.rule it k b (mark_at s.marks a.cell e) past' (own_after j M.fin (has_shares P.map (it k) (it j) a.cell a.mode e mine M.here)) M.good (conflict_from P.rule (it j) (it k) a.cell e a.mode M.here mine clash)

  pub verdict_is : passes P s k ≡ commits P.rule it k
  verdict_is =
      elim (cases_Bool (passes P s k)) [
        | inl t ↦ elim (cases_Bool (commits P.rule it k)) [ inl b ↦ t ∙ sym b | inr b ↦ absurd (not_aborted t b) ]
        | inr t ↦ elim (cases_Bool (commits P.rule it k)) [ inl b ↦ absurd (not_committed t b) | inr b ↦ t ∙ sym b ]
      ]

  -- ⟨ what is finished after it ⟩
  abbrev now : ℕ → Worker
  now = put (worker_at s.workers) w (posting k (worker_at s.workers w))

  abbrev after : ℕ → ℕ
  after = posts now

  fin_up : (j : ℕ) → Fin P it (posted_at s) j → Fin P it after j
  fin_up j f = put_both at w x (worker P.map (it j)) (λ y. j ≤ y.posted) (λ e. let g : j ≤ (at w).posted = rw e at f in omega (arith, late)) (λ _. f)

  fin_own : Fin P it after k
  fin_own = put_both at w x (worker P.map (it k)) (λ y. k ≤ y.posted) (λ e. omega arith) (λ e. absurd (e home))

  fin_down : (j : ℕ) → Fin P it after j → (j ≡ k) ⊎ Fin P it (posted_at s) j
  fin_down j f =
      elim (cases_eq (worker P.map (it j)) w) [
        | inl e ↦
            let g : j ≤ k = subst (λ (y : Worker). j ≤ y.posted) (put_same at w x (worker P.map (it j)) e) f in
            elim (cases_eq j k) [ inl q ↦ inl q | inr q ↦ inr (head_first P it h s I w k some oldest j (omega arith) e) ]
        | inr e ↦ inr (subst (λ (y : Worker). j ≤ y.posted) (put_other at w x (worker P.map (it j)) e) f)
      ]

  finish_staff : Staff P it s.assigned now
  finish_staff = record {
    queues = λ u. put_both at w x u (λ y. Queue P it u y.posted y.orders s.assigned) (λ e. rw e (head_rest P it h s I w k some oldest)) (λ _. I.staff.queues u);
    opens = λ u. put_both at w x u (λ y. is_on y.status ≡ true → Opened P it after y)
        (λ e o. absurd (both_ways false refl o))
        (λ e o. let O = I.staff.opens u o in record { some = O.some; oldest = O.oldest; clear = λ i l sh. fin_up i (O.clear i l sh) });
    clear = λ j f i l sh. elim (fin_down j f) [
      | inl e ↦ fin_up i (clear i (rw e at l) (rw e at sh))
      | inr g ↦ fin_up i (I.staff.clear j g i l sh)
    ];
  }

  -- ⟨ marks after it ⟩
  -- an abort leaves the marks as they were
  marks_kept : passes P s k ≡ false → marks_after P s k ≡ s.marks
  marks_kept t = cond-false (passes P s k) _ _ t

  -- a commit sets k's
  marks_set : passes P s k ≡ true → marks_after P s k ≡ marking k (intention_at s k).accesses s.marks
  marks_set t = cond-true (passes P s k) _ _ t

  -- a mark is k's, which commits, or as it was
  mark_cases : (c m : ℕ) → c ≤ 1023 → m < 4 →
      ((passes P s k ≡ true) × (has (it k) c m ≡ true) × (mark_at (marks_after P s k) c m ≡ k))
      ⊎ ((passes P s k ≡ true → has (it k) c m ≡ false) × (mark_at (marks_after P s k) c m ≡ mark_at s.marks c m))
  unfolding has
  mark_cases c m hc hm =
      let e : mark_at (marking k (intention_at s k).accesses s.marks) c m ≡ cond (any (is_at c m) (it k).accesses) k (mark_at s.marks c m) = rw own_row (marking_at P L k c m (it k).accesses s.marks I.marks.size known hc hm) in
      elim (cases_Bool (passes P s k)) [
        | inl b ↦
            let f : mark_at (marks_after P s k) c m ≡ cond (any (is_at c m) (it k).accesses) k (mark_at s.marks c m) = ap (λ (ms : List ℕ). mark_at ms c m) (marks_set b) ∙ e in
            elim (cases_Bool (any (is_at c m) (it k).accesses)) [
              | inl t ↦ inl (b, t, f ∙ cond-true _ _ _ t)
              | inr t ↦ inr ((λ _. t), f ∙ cond-false _ _ _ t)
            ]
        | inr b ↦ inr ((λ a. absurd (both_ways _ b a)), ap (λ (ms : List ℕ). mark_at ms c m) (marks_kept b))
      ]

  finish_marks : Marks P it after (marks_after P s k)
  finish_marks = record {
    size = elim (cases_Bool (passes P s k)) [
      | inl b ↦ ap length (marks_set b) ∙ marking-length k _ s.marks ∙ I.marks.size
      | inr b ↦ ap length (marks_kept b) ∙ I.marks.size
    ];
    is = λ c m hc hm p. elim (mark_cases c m hc hm) [
      | inl (t, g, e) ↦ subst (Marked P it after c m) (sym e) (record { fin = fin_own; good = sym verdict_is ∙ t; here = g })
      | inr (_, e) ↦
          let M = I.marks.is c m hc hm (rw e at p) in
          subst (Marked P it after c m) (sym e) (record { fin = fin_up _ M.fin; good = M.good; here = M.here })
    ];
    top = λ c m j hc hm p M. elim (fin_down j M.fin) [
      | inl e ↦ elim (mark_cases c m hc hm) [
        | inl (_, _, q) ↦ omega arith
        | inr (g, q) ↦
            let t : passes P s k ≡ true = verdict_is ∙ rw e at M.good in
            absurd (both_ways (has (it k) c m) (g t) (rw e at M.here))
      ]
      | inr f ↦ elim (mark_cases c m hc hm) [
        | inl (_, g, q) ↦ let l : j < k = own_after j f (has_shares P.map (it k) (it j) c m m g M.here) in omega arith
        | inr (_, q) ↦ let l : j ≤ mark_at s.marks c m = I.marks.top c m j hc hm p (record { fin = f; good = M.good; here = M.here }) in omega arith
      ]
    ];
  }

  -- ⟨ rows, lines and counts after it ⟩
  finish_rows : Rows P it (length h.appended) (k ∷ h.finished) (set s.rows (k - 1) (record { intention = intention_at s k; verdict = decided (passes P s k) }))
  finish_rows =
      let row : Row = record { intention = intention_at s k; verdict = decided (passes P s k) } in
      let at_row : (j : ℕ) → 0 < j → (Q : Row → Type 0) → (j ≡ k → Q row) → ((j ≡ k → ⊥) → Q (row_at s.rows j)) → Q (row_at (set s.rows (k - 1) row) j) = λ j p Q here other. at_set s.rows (k - 1) row no_row (j - 1) Q (omega (arith, own_positive, own_there, I.rows.size)) (λ e. here (omega (arith, own_positive))) (λ e. other (λ g. e (omega arith))) in
      record {
        size = length-set _ _ _ ∙ I.rows.size;
        same = λ j p l. at_row j p (λ r. r.intention ≡ it j) (λ e. own_row ∙ ap it (sym e)) (λ _. I.rows.same j p l);
        known = I.rows.known;
        verdict = λ j p l. at_row j p (λ r. r.verdict ≡ cond (any (eqb j) (k ∷ h.finished)) (decided (commits P.rule it j)) Undecided)
            (λ e. rw (any-cons j k h.finished, eq-eqb j k e, verdict_is, e))
            (λ e. rw (any-cons j k h.finished, ne_eqb j k e) (I.rows.verdict j p l));
      }

  finish_told : ToldOf P it s.assigned h.assigned h.granted (k ∷ h.finished) now
  finish_told = record {
    has = I.told.has;
    had = I.told.had;
    done = λ j t. elim (or_cases (eqb j k) _ (sym (any-cons j k h.finished) ∙ t)) [
      | inl here ↦ let e : j ≡ k = eqb-true j k here in (omega (arith, own_positive), subst (Fin P it after) (sym e) fin_own)
      | inr there ↦ let r = I.told.done j there in (r.0, fin_up j r.1)
    ];
    undone = λ j p t.
        let (a, b) = or_parts (eqb j k) _ (sym (any-cons j k h.finished) ∙ t) in
        let u = I.told.undone j p b in
        elim (cases_lt (after (worker P.map (it j))) j) [
          | inl l ↦ l
          | inr l ↦ absurd (elim (fin_down j l) [ inl e ↦ eqb-false j k a e | inr f ↦ omega arith ])
        ];
    began = λ u j t. (
      (I.told.began u j t).0,
      elim (I.told.began u j t).1 [
        | inl f ↦ inl (fin_up j f)
        | inr (o, n) ↦ elim (cases_eq u w) [
          | inl q ↦ inl (let e : k ≡ j = sym number ∙ ap (λ v. on_number (at v).status) (sym q) ∙ n in subst (Fin P it after) e fin_own)
          | inr q ↦ let e = put_other at w x u q in inr (ap (λ (y : Worker). is_on y.status) e ∙ o, ap (λ (y : Worker). on_number y.status) e ∙ n)
        ]
      ],
    );
    begun = λ u. put_both at w x u (λ y. is_on y.status ≡ true → pairs u (on_number y.status) h.granted ≡ true) (λ e o. absurd (both_ways false refl o)) (λ e. I.told.begun u);
  }

  undone : any (eqb k) h.finished ≡ false
  undone = head_undone P it h s I w k some oldest

  was_granted : pairs w k h.granted ≡ true
  was_granted = subst (λ n. pairs w n h.granted ≡ true) number (I.told.begun w on)

  -- the order of k, and no other, becomes finished
  ends : All (λ y. cond (any (eqb y.1) (k ∷ h.finished)) 1 0 ≡ cond (any (eqb y.1) h.finished) 1 0 + cond (eqb k y.1) 1 0) h.assigned
  ends = All-weaker _ _ (λ y e. elim (cases_eq y.1 k) [
    | inl q ↦ rw (any-cons y.1 k h.finished, q, eq-eqb k k refl, undone)
    | inr q ↦ rw (any-cons y.1 k h.finished, ne_eqb y.1 k q, ne_eqb k y.1 (λ z. q (sym z))) (omega arith)
  ]) h.assigned I.counts.homes

  -- and is no more open
  closes : All (λ y. cond (is_open_order h.granted h.finished y) 1 0 ≡ cond (is_open_order h.granted (k ∷ h.finished) y) 1 0 + cond (eqb k y.1) 1 0) h.assigned
  closes = All-weaker _ _ (λ y e. elim (cases_eq y.1 k) [
    | inl q ↦
        let u : y.0 ≡ w = sym e ∙ ap (λ n. worker P.map (it n)) q ∙ home in
        rw (any-cons y.1 k h.finished, q, u, eq-eqb k k refl, undone, was_granted)
    | inr q ↦ rw (any-cons y.1 k h.finished, ne_eqb y.1 k q, ne_eqb k y.1 (λ z. q (sym z))) (omega arith)
  ]) h.assigned I.counts.homes

  finish_counts : Counts P it h.assigned h.granted (k ∷ h.finished) (set s.workers w (posting k (worker_at s.workers w)))
  finish_counts =
      let C = I.counts in
      let b : w < length s.workers = omega (arith, I.sixteen, low) in
      let one = head_once P it h s I w k some oldest in
      record {
        load = omega (arith, C.load, sum_by-set (λ (y : Worker). length y.orders) s.workers w x no_worker b, drop_one (at w).orders some);
        once = C.once;
        homes = C.homes;
        done = omega (arith, C.done, one, sum_split _ _ _ h.assigned ends);
        opened = omega (arith, C.opened, one, sum_split _ _ _ h.assigned closes, sum_by-set (λ (y : Worker). cond (is_on y.status) 1 0) s.workers w x no_worker b, cond-true {A = ℕ} (is_on (at w).status) 1 0 on);
      }

  pub keep_finish : Inv P it (entered h (finished k)) (finish_leaves P s w k)
  keep_finish = record {
    agree = I.agree;
    assigned = I.assigned;
    finished = omega (arith, I.finished);
    bound = I.bound;
    sixteen = length-set _ _ _ ∙ I.sixteen;
    rows = finish_rows;
    lasts = I.lasts;
    staff = subst (Staff P it s.assigned) (sym (seen P it h s I w x low)) finish_staff;
    marks = subst (λ f. Marks P it (posts f) (marks_after P s k)) (sym (seen P it h s I w x low)) finish_marks;
    told = subst (ToldOf P it s.assigned h.assigned h.granted (k ∷ h.finished)) (sym (seen P it h s I w x low)) finish_told;
    counts = finish_counts;
  }
