-- A granted begin keeps the invariant, and so do park, resume and recall, which only move an open worker between held and parked.
use Rattle.std.proofs.Common.{◌≡◌, ℕ, ◌+◌, ◌<◌, ◌≤◌, true, false, cond, not, ◌&&◌, ◌||◌, eqb, ltb, List, ◌∷◌, length, get_or, set, Ok, sym, refl, ap, ◌∙◌, subst, inl, inr, arith, length-set}
use Rattle.std.specs.List.{AllByRecursion as All}
use Rattle.std.proofs.ByRecursion.{All-weaker}
use Rattle.std.proofs.lemmas.List.{get_or_past}
use Rattle.std.proofs.lemmas.List.Sums.{sum_by-set}
use Rattle.std.proofs.lemmas.Bool.Decides.{nat_tests}
use Rattle.std.proofs.lemmas.Bool.{both_ways, false_from_ne_true, ltb-false, eqb-true, eq-eqb, ne_eqb, cases_eq, cases_lt, cases_Bool, and_parts, and_from, or_cases, or_left, or_right, cond-true, cond-false}
use Rattle.model.specs.declared.fault.CallFault.TheVariants.{UnknownWorker, WorkerOpen, NoOrder, NeedNotPosted}
use Rattle.model.specs.Finding.{any, exists}
use Rattle.model.specs.Words.{Intention, Setup, Lawful, worker}
use Rattle.model.specs.Sheets.{History, entered, pairs}
use Rattle.model.specs.Sheets.Event.{granted}
use Rattle.model.specs.State.{Status, Order, Worker, State, no_worker, worker_at, is_empty, oldest_of, is_on, on_number, with_worker, in_status, status_at, posted_at, orders_at}
use Rattle.model.specs.Model.{oldest_at, lacks, begin_answer, begun}
use Rattle.model.proofs.Found.{exists_from, passed, ok_same, put, put_same, put_other, put_both, put_keeps, set-put}
use Rattle.model.proofs.Counting.{sum_split}
use Rattle.model.proofs.Invariant.{posts, Fin, Clear, Queue, Opened, Staff, Marks, Told, ToldOf, is_open_order, Counts, Inv}
use Rattle.model.proofs.Oldest.{head_late, head_home, head_needs, head_unfinished, head_undone, head_once, head_clear}

pub pairs-cons : (w k u j : ℕ) (xs : List (ℕ × ℕ)) → pairs u j ((w, k) ∷ xs) ≡ ((eqb u w && eqb j k) || pairs u j xs)
unfolding any
pairs-cons w k u j xs = refl

-- what a granted begin has shown
pub record Granted (P : Setup) (s : State) (w k : ℕ) : Type 0 where
  pub known : w ≤ P.map.partitions
  pub idle : is_on (status_at s w) ≡ false
  pub some : is_empty (orders_at s w) ≡ false
  pub oldest : (oldest_of (orders_at s w)).number ≡ k
  pub ready : (v : ℕ) → v ≤ P.map.partitions → get_or (oldest_at s w).needs v 0 ≤ posted_at s v

-- where worker v lacks nothing that the order needs, it has posted that need or more
pub not_lacking : (s : State) (o : Order) (v : ℕ) → lacks s o v ≡ false → get_or o.needs v 0 ≤ posted_at s v
not_lacking s o v t = grind (arith, nat_tests)

-- and where it lacks something, it has posted less
pub lacking_less : (s : State) (o : Order) (v : ℕ) → lacks s o v ≡ true → posted_at s v < get_or o.needs v 0
lacking_less s o v t = grind (arith, nat_tests)

pub begin_passed : (P : Setup) (s : State) (w : ℕ) (ticket : ℕ × ℕ) → Ok ticket ≡ begin_answer P s w → Granted P s w ticket.1
begin_passed P s w ticket e =
    let (c1, e1) = passed (ltb P.map.partitions w) (UnknownWorker w) _ ticket e in
    let (c2, e2) = passed (is_on (status_at s w)) (WorkerOpen (on_number (status_at s w))) _ ticket e1 in
    let (c3, e3) = passed (is_empty (orders_at s w)) (NoOrder w) _ ticket e2 in
    let (c4, e4) = passed (exists (lacks s (oldest_at s w)) (P.map.partitions + 1)) (NeedNotPosted (oldest_at s w).number) _ ticket e3 in
    record {
      known = ltb-false _ _ c1;
      idle = c2;
      some = c3;
      oldest = sym (ap (λ (t : ℕ × ℕ). t.1) (ok_same ticket (w, (oldest_at s w).number) e4));
      ready = λ v l. elim (cases_Bool (lacks s (oldest_at s w) v)) [
        | inl t ↦ absurd (both_ways _ c4 (exists_from (lacks s (oldest_at s w)) (P.map.partitions + 1) v (omega arith) t))
        | inr t ↦ not_lacking s (oldest_at s w) v t
      ];
    }

-- ⟨ a write at one worker that posts nothing ⟩

module _ (P : Setup) (it : ℕ → Intention) (at : ℕ → Worker) (w : ℕ) (x : Worker) (same : x.posted ≡ (at w).posted) where
  -- what is left to show of the staff is the queues, and what worker w is open on
  pub staff_put : (n n' : ℕ) → Staff P it n at → ((u : ℕ) → Queue P it u (put at w x u).posted (put at w x u).orders n') → (is_on x.status ≡ true → Opened P it (posts at) x) → Staff P it n' (put at w x)
  staff_put n n' staff queues opened =
      let pk = put_keeps (λ (y : Worker). y.posted) at w x same in
      record {
        queues = queues;
        opens = λ u. subst (λ f. is_on (put at w x u).status ≡ true → Opened P it f (put at w x u)) (sym pk)
            (put_both at w x u (λ y. is_on y.status ≡ true → Opened P it (posts at) y) (λ _. opened) (λ _. staff.opens u));
        clear = subst (λ f. (j : ℕ) → Fin P it f j → Clear P it f j) (sym pk) staff.clear;
      }

  -- where nothing is assigned either, it is the one queue of worker w
  pub staff_kept : (n : ℕ) → Staff P it n at → Queue P it w x.posted x.orders n → (is_on x.status ≡ true → Opened P it (posts at) x) → Staff P it n (put at w x)
  staff_kept n staff queue = staff_put n n staff (λ u. put_both at w x u (λ y. Queue P it u y.posted y.orders n) (λ e. rw e queue) (λ _. staff.queues u))

  -- what the lines say stays, where worker w stays open on its number or on none
  pub told_put : (count : ℕ) (orders grants : List (ℕ × ℕ)) (ends : List ℕ) → is_on x.status ≡ is_on (at w).status → on_number x.status ≡ on_number (at w).status →
      ToldOf P it count orders grants ends at → ToldOf P it count orders grants ends (put at w x)
  told_put count orders grants ends on number told =
      subst (λ f. Told P it count orders grants ends f (λ u. is_on (put at w x u).status) (λ u. on_number (put at w x u).status)) (sym (put_keeps (λ (y : Worker). y.posted) at w x same))
      (subst (λ f. Told P it count orders grants ends (posts at) f (λ u. on_number (put at w x u).status)) (sym (put_keeps (λ (y : Worker). is_on y.status) at w x on))
      (subst (λ f. Told P it count orders grants ends (posts at) (λ u. is_on (at u).status) f) (sym (put_keeps (λ (y : Worker). on_number y.status) at w x number)) told))

module _ (P : Setup) (it : ℕ → Intention) (h : History) (s : State) (I : Inv P it h s) where
  -- the workers after a write at w, as a function
  pub seen : (w : ℕ) (x : Worker) → w ≤ 15 → worker_at (set s.workers w x) ≡ put (worker_at s.workers) w x
  seen w x l = set-put s.workers w x no_worker (omega (arith, I.sixteen))

  pub posted_same : (w : ℕ) (x : Worker) → w ≤ 15 → x.posted ≡ posted_at s w → posts (worker_at (set s.workers w x)) ≡ posts (worker_at s.workers)
  posted_same w x l e = ap posts (seen w x l) ∙ put_keeps (λ (y : Worker). y.posted) (worker_at s.workers) w x e

  -- an open worker is one of the sixteen
  pub on_low : (w : ℕ) → is_on (status_at s w) ≡ true → w ≤ 15
  on_low w o =
      elim (cases_lt 15 w) [
        | inl l ↦ absurd (both_ways (is_on (status_at s w)) (ap (λ (x : Worker). is_on x.status) (get_or_past s.workers w no_worker (omega (arith, I.sixteen)))) o)
        | inr l ↦ l
      ]

  -- ⟨ begin ⟩
  module _ (L : Lawful P) (w k : ℕ) (G : Granted P s w k) where
    low : w ≤ 15
    low = omega (arith, G.known, L.map.few)

    clear : Clear P it (posted_at s) k
    clear = head_clear P it h s I w k G.some G.oldest L (λ v l. omega (arith, G.ready v l, head_needs P it h s I w k G.some G.oldest v (omega (arith, L.map.few))))

    abbrev x : Worker
    x = begun k (worker_at s.workers w)

    abbrev at : ℕ → Worker
    at = worker_at s.workers

    abbrev now : ℕ → Worker
    now = put (worker_at s.workers) w (begun k (worker_at s.workers w))

    late : posted_at s w < k
    late = head_late P it h s I w k G.some G.oldest

    home : worker P.map (it k) ≡ w
    home = head_home P it h s I w k G.some G.oldest

    unfinished : Fin P it (posted_at s) k → ⊥
    unfinished = head_unfinished P it h s I w k G.some G.oldest

    -- k was not granted before
    ungranted : pairs w k h.granted ≡ false
    ungranted = false_from_ne_true _ (λ t. elim (I.told.began w k t).1 [ inl f ↦ unfinished f | inr (o, _) ↦ both_ways _ G.idle o ])

    undone : any (eqb k) h.finished ≡ false
    undone = head_undone P it h s I w k G.some G.oldest

    begin_staff : Staff P it s.assigned now
    begin_staff = staff_kept P it at w x refl s.assigned I.staff (I.staff.queues w) (λ _. record { some = G.some; oldest = G.oldest; clear = clear })

    begin_told : ToldOf P it s.assigned h.assigned ((w, k) ∷ h.granted) h.finished now
    begin_told =
        subst (λ f. Told P it s.assigned h.assigned ((w, k) ∷ h.granted) h.finished f (λ u. is_on (put at w x u).status) (λ u. on_number (put at w x u).status))
        (sym (put_keeps (λ (y : Worker). y.posted) at w x refl))
        (record {
          done = I.told.done;
          undone = I.told.undone;
          has = I.told.has;
          had = I.told.had;
          began = λ u j t. elim (or_cases (eqb u w && eqb j k) _ (sym (pairs-cons w k u j h.granted) ∙ t)) [
            | inl here ↦
                let (a, b) = and_parts (eqb u w) (eqb j k) here in
                let e = put_same at w x u (eqb-true u w a) in
                (omega (arith, late, eqb-true j k b), inr (ap (λ (y : Worker). is_on y.status) e, ap (λ (y : Worker). on_number y.status) e ∙ sym (eqb-true j k b)))
            | inr there ↦ (
              (I.told.began u j there).0,
              elim (I.told.began u j there).1 [
                | inl f ↦ inl f
                | inr (o, n) ↦ elim (cases_eq u w) [
                  | inl q ↦ absurd (both_ways _ G.idle (rw q at o))
                  | inr q ↦ let e = put_other at w x u q in inr (ap (λ (y : Worker). is_on y.status) e ∙ o, ap (λ (y : Worker). on_number y.status) e ∙ n)
                ]
              ],
            )
          ];
          begun = λ u. put_both at w x u (λ y. is_on y.status ≡ true → pairs u (on_number y.status) ((w, k) ∷ h.granted) ≡ true)
              (λ e _. pairs-cons w k u k h.granted ∙ or_left _ _ (and_from _ _ (eq-eqb u w e) (eq-eqb k k refl)))
              (λ e o. pairs-cons w k u (on_number (at u).status) h.granted ∙ or_right _ _ (I.told.begun u o));
        })

    -- the order of k, and no other, becomes open
    turns : All (λ x. cond (is_open_order ((w, k) ∷ h.granted) h.finished x) 1 0 ≡ cond (is_open_order h.granted h.finished x) 1 0 + cond (eqb k x.1) 1 0) h.assigned
    turns = All-weaker _ _ (λ y e. elim (cases_eq y.1 k) [
      | inl q ↦
          let u : y.0 ≡ w = sym e ∙ ap (λ n. worker P.map (it n)) q ∙ home in
          rw (pairs-cons w k y.0 y.1 h.granted, q, u, eq-eqb w w refl, eq-eqb k k refl, ungranted, undone)
      | inr q ↦ rw (pairs-cons w k y.0 y.1 h.granted, ne_eqb y.1 k q, ne_eqb k y.1 (λ z. q (sym z))) (plain_cond y.0 y.1)
    ]) h.assigned I.counts.homes
      where
        plain_cond : (u j : ℕ) → cond (((eqb u w && false) || pairs u j h.granted) && not (any (eqb j) h.finished)) 1 0 ≡ cond (is_open_order h.granted h.finished (u, j)) 1 0 + 0
        plain_cond u j = elim (cases_Bool (eqb u w)) [ inl t ↦ rw t (omega arith) | inr t ↦ rw t (omega arith) ]

    begin_counts : Counts P it h.assigned ((w, k) ∷ h.granted) h.finished (set s.workers w (begun k (worker_at s.workers w)))
    begin_counts =
        let C = I.counts in
        let one = head_once P it h s I w k G.some G.oldest in
        record {
          load = omega (arith, C.load, sum_by-set (λ (x : Worker). length x.orders) s.workers w x no_worker (omega (arith, I.sixteen, low)));
          once = C.once;
          homes = C.homes;
          done = C.done;
          opened = omega (arith, C.opened, one, sum_split _ _ _ h.assigned turns, sum_by-set (λ (x : Worker). cond (is_on x.status) 1 0) s.workers w x no_worker (omega (arith, I.sixteen, low)), cond-false {A = ℕ} (is_on (status_at s w)) 1 0 G.idle);
        }

    pub keep_begin : Inv P it (entered h (granted w k)) (with_worker s w (begun k (worker_at s.workers w)))
    keep_begin = record {
      agree = I.agree;
      assigned = I.assigned;
      finished = I.finished;
      bound = I.bound;
      sixteen = length-set _ _ _ ∙ I.sixteen;
      rows = I.rows;
      lasts = I.lasts;
      staff = subst (Staff P it s.assigned) (sym (seen w x low)) begin_staff;
      marks = subst (λ f. Marks P it f s.marks) (sym (posted_same w x low refl)) I.marks;
      told = subst (ToldOf P it s.assigned h.assigned ((w, k) ∷ h.granted) h.finished) (sym (seen w x low)) begin_told;
      counts = begin_counts;
    }

  -- ⟨ park, resume, recall ⟩
  -- an open worker w stays open on its number
  pub keep_move : (w : ℕ) (y : Status) → is_on (status_at s w) ≡ true → is_on y ≡ true → on_number y ≡ on_number (status_at s w) → Inv P it h (with_worker s w (in_status y (worker_at s.workers w)))
  keep_move w y o oy n =
      let at = worker_at s.workers in
      let x = in_status y (worker_at s.workers w) in
      let l : w ≤ 15 = on_low w o in
      let b : w < length s.workers = omega (arith, I.sixteen) in
      let O = I.staff.opens w o in
      record {
        agree = I.agree;
        assigned = I.assigned;
        finished = I.finished;
        bound = I.bound;
        sixteen = length-set _ _ _ ∙ I.sixteen;
        rows = I.rows;
        lasts = I.lasts;
        staff = subst (Staff P it s.assigned) (sym (seen w x l)) (staff_kept P it at w x refl s.assigned I.staff (I.staff.queues w) (λ _. record { some = O.some; oldest = O.oldest ∙ sym n; clear = rw n O.clear }));
        marks = subst (λ f. Marks P it f s.marks) (sym (posted_same w x l refl)) I.marks;
        told = subst (ToldOf P it s.assigned h.assigned h.granted h.finished) (sym (seen w x l)) (told_put P it at w x refl s.assigned h.assigned h.granted h.finished (oy ∙ sym o) n I.told);
        counts = record {
          load = omega (arith, I.counts.load, sum_by-set (λ (x : Worker). length x.orders) s.workers w x no_worker b);
          once = I.counts.once;
          homes = I.counts.homes;
          done = I.counts.done;
          opened = omega (arith, I.counts.opened, sum_by-set (λ (x : Worker). cond (is_on x.status) 1 0) s.workers w x no_worker b, cond-true {A = ℕ} (is_on (status_at s w)) 1 0 o, cond-true {A = ℕ} (is_on y) 1 0 oy);
        };
      }
