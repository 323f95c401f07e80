-- An accepted assign keeps the invariant: the last numbers that are stored give the needs by their meaning.
use Rattle.std.proofs.Common.{◌≡◌, ℕ, suc, ◌+◌, ◌<◌, ◌≤◌, Bool, true, false, cond, ◌&&◌, eqb, leb, List, [], ◌∷◌, ◌++◌, length, get_or, set, Ok, sym, refl, ap, ◌∙◌, subst, inl, inr, arith, length-append, length-set}
use Rattle.std.proofs.lemmas.List.FromFn.{length-map-range_with_len, get_or-map-range_with_len}
use Rattle.std.proofs.lemmas.List.Sums.{sum_by-set, sum_by-cons}
use Rattle.std.proofs.lemmas.Bool.{both_ways, false_from_ne_true, leb-false, eqb-true, eqb-false, eq-eqb, ne_eqb, le-leb, lt-leb, cases_eq, cases_Bool, cases_lt, and_parts, and_from, or_cases, or_left, or_right, cond-true, cond-false, cond_both}
use Rattle.terms.specs.Maps.{MapMeaning}
use Rattle.model.specs.declared.fault.CallFault.TheVariants.{NoneUnassigned, WorkerFull}
use Rattle.model.specs.Finding.{any, last}
use Rattle.model.specs.Words.{Intention, Setup, Lawful, touches, worker, is_joint}
use Rattle.model.specs.Needs.{last_joint, last_plain, need_of}
use Rattle.model.specs.Sheets.{History, entered, pairs}
use Rattle.model.specs.Sheets.Event.{assigned}
use Rattle.model.specs.State.{Order, Worker, State, no_worker, last_number, worker_at, is_empty, oldest_of, is_on, on_number, status_at, posted_at, orders_at}
use Rattle.model.specs.Model.{next_number, next_intention, next_worker, assign_answer, wanted, next_order, pushed, joints_after_of, plains_after_of, assign_leaves}
use Rattle.model.proofs.Found.{at_set, passed, ok_same, put, put_both}
use Rattle.model.proofs.Sharing.{worker_most}
use Rattle.model.proofs.Invariant.{RightNeeds, Queue, Staff, Marks, Lasts, Told, ToldOf, is_open_order, Counts, Inv}
use Rattle.model.proofs.Oldest.{queue_push, queue_skip, fin_most, unassigned_unended, head_assigned}
use Rattle.model.proofs.Moving.{pairs-cons, staff_put, told_put, seen, posted_same}

-- what an accepted assign has shown
pub assign_passed : (P : Setup) (s : State) (x : ℕ × ℕ) → Ok x ≡ assign_answer P s → (s.assigned < last_number s) × (x ≡ (next_number s, next_worker P s))
assign_passed P s x e =
    let (c1, e1) = passed (leb (last_number s) s.assigned) (NoneUnassigned (last_number s)) _ x e in
    let (_, e2) = passed (leb 16 (length (orders_at s (next_worker P s)))) (WorkerFull (next_worker P s)) _ x e1 in
    (leb-false _ _ c1, ok_same x (next_number s, next_worker P s) e2)

push_some : (os : List Order) (o : Order) → is_empty (os ++ o ∷ []) ≡ false
push_some [] o = refl
push_some (x ∷ os) o = refl

push_oldest : (os : List Order) (o : Order) → is_empty os ≡ false → oldest_of (os ++ o ∷ []) ≡ oldest_of os
push_oldest [] o e = absurd (both_ways true e refl)
push_oldest (x ∷ os) o e = refl

cond_same : (b : Bool) {x x' y y' : ℕ} → (b ≡ true → x ≡ x') → (b ≡ false → y ≡ y') → cond b x y ≡ cond b x' y'
cond_same true f g = f refl
cond_same false f g = g refl

module _ (P : Setup) (L : Lawful P) (it : ℕ → Intention) (h : History) (s : State) (I : Inv P it h s) (less : s.assigned < last_number s) where
  abbrev m : MapMeaning
  m = P.map

  abbrev k : ℕ
  k = next_number s

  abbrev w : ℕ
  w = next_worker P s

  abbrev at : ℕ → Worker
  at = worker_at s.workers

  abbrev x : Worker
  x = pushed (next_order P.map s) (worker_at s.workers (next_worker P s))

  abbrev now : ℕ → Worker
  now = put (worker_at s.workers) (next_worker P s) (pushed (next_order P.map s) (worker_at s.workers (next_worker P s)))

  next : s.assigned + 1 ≡ suc s.assigned
  next = omega arith

  there : s.assigned + 1 ≤ length h.appended
  there = omega (arith, I.rows.size)

  next_is : next_intention s ≡ it (next_number s)
  next_is = I.rows.same (next_number s) (omega arith) there

  home : next_worker P s ≡ worker P.map (it (next_number s))
  home = ap (worker P.map) next_is

  low : next_worker P s ≤ 15
  low = omega (arith, worker_most P.map L.map (next_intention s), L.map.few)

  -- ⟨ needs and last numbers ⟩
  joint_then : (p : ℕ) → p ≤ 15 → get_or s.joints p 0 ≡ last_joint P.map it p (next_number s)
  joint_then p l = I.lasts.joint p l ∙ ap (last_joint P.map it p) (sym next)

  plain_then : (p : ℕ) → 0 < p → p ≤ 15 → get_or s.plains p 0 ≡ last_plain P.map it p (next_number s)
  plain_then p b l = I.lasts.plain p b l ∙ ap (last_plain P.map it p) (sym next)

  wanted_is : (v : ℕ) → v ≤ 15 → wanted P.map s v ≡ need_of P.map it (next_number s) v
  unfolding need_of
  wanted_is v l =
      subst (λ y. wanted P.map s v ≡ cond (eqb v 0) (cond (is_joint m y) 0 (last_joint m it (worker m y) (next_number s))) (cond (is_joint m y && touches m y v) (last_plain m it v (next_number s)) 0)) next_is
      (cond_same (eqb v 0)
      (λ _. cond_same (is_joint m (next_intention s)) (λ _. refl) (λ _. joint_then (next_worker P s) low))
      (λ e. cond_same (is_joint m (next_intention s) && touches m (next_intention s) v) (λ _. plain_then v (omega (arith, eqb-false v 0 e)) l) (λ _. refl)))

  right : RightNeeds P it (next_order P.map s)
  right v l = get_or-map-range_with_len (wanted m s) 0 16 v v 0 (omega arith) (omega arith) ∙ wanted_is v l

  joint_now : (p : ℕ) → p ≤ 15 → get_or (joints_after_of P.map s) p 0 ≡ last_joint P.map it p (suc (next_number s))
  unfolding last_joint last
  joint_now p l =
      subst (λ y. get_or (joints_after_of m s) p 0 ≡ cond (is_joint m y && touches m y p) (next_number s) (last (λ j. is_joint m (it j) && touches m (it j) p) (next_number s))) next_is
      (elim (cases_Bool (is_joint m (next_intention s))) [
        | inl t ↦ rw t (get_or-map-range_with_len (λ p. cond (touches m (next_intention s) p) (next_number s) (get_or s.joints p 0)) 0 16 p p 0 (omega arith) (omega arith) ∙ cond_same (touches m (next_intention s) p) (λ _. refl) (λ _. joint_then p l))
        | inr t ↦ rw t (joint_then p l)
      ])

  plain_now : (p : ℕ) → 0 < p → p ≤ 15 → get_or (plains_after_of P.map s) p 0 ≡ last_plain P.map it p (suc (next_number s))
  unfolding last_plain last
  plain_now p b l =
      subst (λ y. get_or (plains_after_of m s) p 0 ≡ cond (eqb (worker m y) p) (next_number s) (last (λ j. eqb (worker m (it j)) p) (next_number s))) next_is
      (elim (cases_eq (worker m (next_intention s)) 0) [
        | inl e ↦ rw (eq-eqb _ _ e, ne_eqb (worker m (next_intention s)) p (omega arith)) (plain_then p b l)
        | inr e ↦ rw (ne_eqb _ _ e) (at_set s.plains (next_worker P s) (next_number s) 0 p (λ n. n ≡ cond (eqb (worker m (next_intention s)) p) (next_number s) (last (λ j. eqb (worker m (it j)) p) (next_number s))) (omega (arith, I.lasts.plains_size, low))
            (λ q. sym (cond-true (eqb (worker m (next_intention s)) p) _ _ (eq-eqb _ p (sym q))))
            (λ q. plain_then p b l ∙ sym (cond-false (eqb (worker m (next_intention s)) p) _ _ (ne_eqb _ p (λ z. q (sym z))))))
      ])

  assign_lasts : Lasts P it (next_number s) (joints_after_of P.map s) (plains_after_of P.map s)
  assign_lasts = record {
    joints_size = cond_both (is_joint m (next_intention s)) _ _ (λ (xs : List ℕ). length xs ≡ 16) (λ _. length-map-range_with_len (λ p. cond (touches m (next_intention s) p) (next_number s) (get_or s.joints p 0)) 0 16) (λ _. I.lasts.joints_size);
    plains_size = cond_both (is_joint m (next_intention s)) _ _ (λ (xs : List ℕ). length xs ≡ 16) (λ _. I.lasts.plains_size) (λ _. length-set s.plains _ _ ∙ I.lasts.plains_size);
    joint = joint_now;
    plain = plain_now;
  }

  -- ⟨ the workers ⟩
  assign_staff : Staff P it (next_number s) now
  assign_staff =
      let home_next : worker m (it (suc s.assigned)) ≡ w = ap (λ n. worker m (it n)) (sym next) ∙ sym home in
      staff_put P it at w x refl s.assigned (next_number s) I.staff
      (λ u. subst (λ n. Queue P it u (put at w x u).posted (put at w x u).orders n) (sym next)
      (put_both at w x u (λ y. Queue P it u y.posted y.orders (suc s.assigned))
      (λ e. rw e (queue_push P it w _ _ _ (next_order m s) (I.staff.queues w) next (sym home) right))
      (λ e. queue_skip P it u _ _ _ (I.staff.queues u) (λ z. e (sym z ∙ home_next)))))
      (λ o. let O = I.staff.opens w o in record {
        some = push_some (at w).orders (next_order m s);
        oldest = ap (λ (y : Order). y.number) (push_oldest (at w).orders (next_order m s) O.some) ∙ O.oldest;
        clear = O.clear;
      })

  -- ⟨ what the lines say ⟩
  told_assigned : Told P it (next_number s) ((next_worker P s, next_number s) ∷ h.assigned) h.granted h.finished (posted_at s) (λ u. is_on (status_at s u)) (λ u. on_number (status_at s u))
  told_assigned = record {
    done = I.told.done;
    undone = I.told.undone;
    began = I.told.began;
    begun = I.told.begun;
    has = λ u j t. elim (or_cases (eqb u w && eqb j k) _ (sym (pairs-cons w k u j h.assigned) ∙ t)) [
      | inl here ↦
          let (a, b) = and_parts (eqb u w) (eqb j k) here in
          let e : j ≡ k = eqb-true j k b in
          (omega arith, omega arith, ap (λ n. worker m (it n)) e ∙ sym home ∙ sym (eqb-true u w a))
      | inr there ↦ let r = I.told.has u j there in (r.0, omega (arith, r.1), r.2)
    ];
    had = λ j p l. pairs-cons w k (worker m (it j)) j h.assigned ∙ elim (cases_eq j k) [
      | inl e ↦ or_left _ _ (and_from _ _ (eq-eqb _ w (ap (λ n. worker m (it n)) e ∙ sym home)) (eq-eqb j k e))
      | inr e ↦ or_right _ _ (I.told.had j p (omega arith))
    ];
  }

  assign_told : ToldOf P it (next_number s) ((next_worker P s, next_number s) ∷ h.assigned) h.granted h.finished now
  assign_told = told_put P it at w x refl k ((w, k) ∷ h.assigned) h.granted h.finished refl refl told_assigned

  -- ⟨ the counts ⟩
  undone : any (eqb (next_number s)) h.finished ≡ false
  undone = unassigned_unended P it h s I k (omega arith)

  ungranted : pairs (next_worker P s) (next_number s) h.granted ≡ false
  ungranted = false_from_ne_true _ (λ t. elim (I.told.began w k t).1 [
    | inl f ↦ omega (arith, fin_most P it h s I k f)
    | inr (o, n) ↦ let O = I.staff.opens w o in omega (arith, n, head_assigned P it h s I w (on_number (at w).status) O.some O.oldest)
  ])

  assign_counts : Counts P it ((next_worker P s, next_number s) ∷ h.assigned) h.granted h.finished (set s.workers (next_worker P s) (pushed (next_order P.map s) (worker_at s.workers (next_worker P s))))
  assign_counts =
      let C = I.counts in
      let b : w < length s.workers = omega (arith, I.sixteen, low) in
      record {
        load = omega (arith, C.load, sum_by-set (λ (y : Worker). length y.orders) s.workers w x no_worker b, length-append (at w).orders (next_order m s ∷ []));
        once = λ j p. sum_by-cons (λ (y : ℕ × ℕ). cond (eqb j y.1) 1 0) (w, k) h.assigned ∙ elim (cases_eq j k) [
          | inl e ↦
              let a : cond (leb j (length h.assigned)) 1 0 ≡ 0 = cond-false {A = ℕ} _ 1 0 (lt-leb j _ (omega (arith, I.assigned))) in
              let c : cond (leb j (suc (length h.assigned))) 1 0 ≡ 1 = cond-true {A = ℕ} _ 1 0 (le-leb j _ (omega (arith, I.assigned))) in
              omega (arith, cond-true {A = ℕ} (eqb j k) 1 0 (eq-eqb j k e), C.once j p)
          | inr e ↦
              let a : leb j (suc (length h.assigned)) ≡ leb j (length h.assigned) = elim (cases_lt (length h.assigned) j) [
                | inl l ↦ lt-leb j _ (omega (arith, I.assigned)) ∙ sym (lt-leb j _ l)
                | inr l ↦ le-leb j _ (omega arith) ∙ sym (le-leb j _ l)
              ] in
              omega (arith, cond-false {A = ℕ} (eqb j k) 1 0 (ne_eqb j k e), C.once j p, ap (λ t. cond {A = ℕ} t 1 0) a)
        ];
        homes = (sym home, C.homes);
        done = omega (arith, sum_by-cons (λ (y : ℕ × ℕ). cond (any (eqb y.1) h.finished) 1 0) (w, k) h.assigned, C.done, cond-false {A = ℕ} _ 1 0 undone);
        opened =
            let closed : is_open_order h.granted h.finished (w, k) ≡ false = rw ungranted in
            omega (arith, sum_by-cons (λ (y : ℕ × ℕ). cond (is_open_order h.granted h.finished y) 1 0) (w, k) h.assigned, C.opened, cond-false {A = ℕ} _ 1 0 closed, sum_by-set (λ (y : Worker). cond (is_on y.status) 1 0) s.workers w x no_worker b);
      }

  pub keep_assign : Inv P it (entered h (assigned (next_worker P s) (next_number s))) (assign_leaves P s)
  keep_assign = record {
    agree = I.agree;
    assigned = omega (arith, I.assigned);
    finished = I.finished;
    bound = there;
    sixteen = length-set _ _ _ ∙ I.sixteen;
    rows = I.rows;
    staff = subst (Staff P it k) (sym (seen P it h s I w x low)) assign_staff;
    marks = subst (λ f. Marks P it f s.marks) (sym (posted_same P it h s I w x low refl)) I.marks;
    lasts = assign_lasts;
    told = subst (ToldOf P it k ((w, k) ∷ h.assigned) h.granted h.finished) (sym (seen P it h s I w x low)) assign_told;
    counts = assign_counts;
  }
