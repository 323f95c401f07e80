-- A worker's orders, and its oldest one: what the invariant says of them.
use Rattle.std.proofs.Common.{◌≡◌, ℕ, suc, ◌+◌, ◌<◌, ◌≤◌, true, false, eqb, List, [], ◌∷◌, ◌++◌, length, get_or, drop, count_by, refl, ap, ◌∙◌, subst, inl, inr, arith}
use Rattle.std.proofs.lemmas.Bool.{both_ways, false_from_ne_true, le-leb, cases_lt, cases_eq, cond-true}
use Rattle.model.specs.Finding.{any}
use Rattle.model.specs.Words.{Intention, Setup, Lawful, Shares, worker}
use Rattle.model.specs.Needs.{need_of}
use Rattle.model.specs.Sheets.{History}
use Rattle.model.specs.State.{Order, Worker, State, worker_at, is_empty, oldest_of, posted_at, orders_at}
use Rattle.model.proofs.Sharing.{worker_most}
use Rattle.model.proofs.Needed.{need_most, need_is}
use Rattle.model.proofs.Invariant.{Fin, Clear, NoneBetween, RightNeeds, Queue, Inv}

-- orders that are not none are an oldest one and the rest
pub drop_one : (os : List Order) → is_empty os ≡ false → length (drop 1 os) + 1 ≡ length os
drop_one [] e = absurd (both_ways true e refl)
drop_one (o ∷ os) e = omega arith

module _ (P : Setup) (it : ℕ → Intention) (w : ℕ) where
  pub queue_most : (low : ℕ) (os : List Order) (high : ℕ) → Queue P it w low os high → low ≤ high
  queue_most low [] high q = q.0
  queue_most low (o ∷ os) high q = omega (arith, q.0, queue_most o.number os high q.4)

  -- the next number goes to the end of its worker's queue
  pub queue_push : (low : ℕ) (os : List Order) (high : ℕ) (o : Order) → Queue P it w low os high → o.number ≡ suc high → worker P.map (it o.number) ≡ w → RightNeeds P it o → Queue P it w low (os ++ o ∷ []) (suc high)
  queue_push low [] high o q n e r = (omega (arith, q.0), e, λ j a b. q.1 j a (omega arith), r, (omega arith, λ j a b. absurd (omega arith)))
  queue_push low (x ∷ os) high o q n e r = (q.0, q.1, q.2, q.3, queue_push x.number os high o q.4 n e r)

  -- and leaves the queue of every other
  pub queue_skip : (low : ℕ) (os : List Order) (high : ℕ) → Queue P it w low os high → (worker P.map (it (suc high)) ≡ w → ⊥) → Queue P it w low os (suc high)
  queue_skip low [] high q e = (omega (arith, q.0), λ j a b f. elim (cases_eq j (suc high)) [ inl g ↦ e (rw g at f) | inr g ↦ q.1 j a (omega arith) f ])
  queue_skip low (o ∷ os) high q e = (q.0, q.1, q.2, q.3, queue_skip o.number os high q.4 e)

  pub queue_head : (low : ℕ) (os : List Order) (high : ℕ) → is_empty os ≡ false → Queue P it w low os high →
      (low < (oldest_of os).number) × (worker P.map (it (oldest_of os).number) ≡ w) × NoneBetween P it w low (oldest_of os).number × RightNeeds P it (oldest_of os) × Queue P it w (oldest_of os).number (drop 1 os) high
  queue_head low [] high e q = absurd (both_ways true e refl)
  queue_head low (o ∷ os) high e q = q

  -- a worker with no order has no number above the posted one
  pub queue_none : (low : ℕ) (os : List Order) (high : ℕ) → is_empty os ≡ true → Queue P it w low os high → NoneBetween P it w low (suc high)
  queue_none low [] high e q = q.1
  queue_none low (o ∷ os) high e q = absurd (both_ways false refl e)

module _ (P : Setup) (it : ℕ → Intention) (h : History) (s : State) (I : Inv P it h s) where
  abbrev pub at : ℕ → Worker
  at = worker_at s.workers

  -- a finished number was assigned
  pub fin_most : (j : ℕ) → Fin P it (posted_at s) j → j ≤ s.assigned
  fin_most j f = let q = queue_most P it (worker P.map (it j)) _ _ _ (I.staff.queues (worker P.map (it j))) in omega arith

  -- a number whose worker has not posted it has no finish
  pub unended : (j : ℕ) → posted_at s (worker P.map (it j)) < j → any (eqb j) h.finished ≡ false
  unended j l = false_from_ne_true _ (λ t. omega (arith, (I.told.done j t).1))

  -- and none that is not assigned has one
  pub unassigned_unended : (j : ℕ) → s.assigned < j → any (eqb j) h.finished ≡ false
  unassigned_unended j l = false_from_ne_true _ (λ t. omega (arith, fin_most j (I.told.done j t).1))

  module _ (w k : ℕ) (some : is_empty (orders_at s w) ≡ false) (is : (oldest_of (orders_at s w)).number ≡ k) where
    head : (posted_at s w < k) × (worker P.map (it k) ≡ w) × NoneBetween P it w (posted_at s w) k × Queue P it w k (drop 1 (orders_at s w)) s.assigned
    head =
        let q = queue_head P it w _ _ _ some (I.staff.queues w) in
        subst (λ n. (posted_at s w < n) × (worker P.map (it n) ≡ w) × NoneBetween P it w (posted_at s w) n × Queue P it w n (drop 1 (orders_at s w)) s.assigned) is (q.0, q.1, q.2, q.4)

    pub head_late : posted_at s w < k
    head_late = head.0

    pub head_home : worker P.map (it k) ≡ w
    head_home = head.1

    pub head_rest : Queue P it w k (drop 1 (orders_at s w)) s.assigned
    head_rest = head.3

    pub head_assigned : k ≤ s.assigned
    head_assigned = queue_most P it w k _ _ head_rest

    pub head_needs : (v : ℕ) → v ≤ 15 → get_or (oldest_of (orders_at s w)).needs v 0 ≡ need_of P.map it k v
    head_needs v l = (queue_head P it w _ _ _ some (I.staff.queues w)).3 v l ∙ ap (λ n. need_of P.map it n v) is

    -- k is not finished, has no finish, and stands once among the assigned
    pub head_unfinished : Fin P it (posted_at s) k → ⊥
    head_unfinished f = let z : k ≤ posted_at s w = rw head_home at f in omega (arith, head_late)

    pub head_undone : any (eqb k) h.finished ≡ false
    head_undone = unended k (rw head_home head_late)

    pub head_once : count_by (λ (x : ℕ × ℕ). eqb k x.1) h.assigned ≡ 1
    head_once = I.counts.once k (omega (arith, head_late)) ∙ cond-true _ _ _ (le-leb k (length h.assigned) (omega (arith, head_assigned, I.assigned)))

    pub head_none : NoneBetween P it w (posted_at s w) k
    head_none = head.2

    -- a worker's earlier numbers are finished
    pub head_first : (j : ℕ) → j < k → worker P.map (it j) ≡ w → Fin P it (posted_at s) j
    head_first j l e = rw e (elim (cases_lt (posted_at s w) j) [ inl g ↦ absurd (head_none j g l e) | inr g ↦ g ])

    -- every need is posted: all earlier numbers that share a partition are finished
    pub head_clear : Lawful P → ((v : ℕ) → v ≤ P.map.partitions → need_of P.map it k v ≤ posted_at s v) → Clear P it (posted_at s) k
    head_clear L r i l sh =
        elim (cases_eq (worker P.map (it i)) w) [
          | inl e ↦ head_first i l e
          | inr e ↦
              let m : i ≤ need_of P.map it k (worker P.map (it i)) = need_most P.map it k i l sh (λ g. e (g ∙ head_home)) in
              omega (arith, r (worker P.map (it i)) (worker_most P.map L.map (it i)))
        ]

    -- a need is not posted: it is itself an earlier number that shares a partition and is not finished
    pub head_blocked : (v : ℕ) → posted_at s v < need_of P.map it k v → (j : ℕ) × (j < k) × Shares P.map (it j) (it k) × (posted_at s (worker P.map (it j)) < j)
    head_blocked v g =
        let r = need_is P.map it k v (omega arith) in
        (need_of P.map it k v, r.0, r.2, rw r.1 g)
