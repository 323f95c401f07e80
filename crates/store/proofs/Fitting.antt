-- What the stored workers keep to, kept by every change of one worker.
use Rattle.std.proofs.Common.{◌≡◌, ℕ, zero, suc, ◌+◌, ◌<◌, ◌≤◌, Bool, true, false, cond, eqb, leb, List, [], ◌∷◌, ◌++◌, length, drop, set, Some, None, sum_by, Option, sym, refl, ap, ◌∙◌, subst, inl, inr, arith}
use Rattle.std.proofs.lemmas.List.{get_or_past}
use Rattle.std.proofs.lemmas.List.Sums.{sum_by-set}
use Rattle.std.proofs.lemmas.Bool.{both_ways, and_parts, and_from, leb-true, le-leb, eqb-true, cases_lt, cases_Bool, cond-true, cond-false}
use Rattle.model.specs.Finding.{all}
use Rattle.model.specs.State.{Order, Worker, no_worker, worker_at, is_empty, is_held_on, in_status}
use Rattle.model.specs.Model.{pushed, posting}
use Rattle.model.specs.declared.status.Status.{Status}
use Rattle.model.specs.declared.status.Status.TheVariants.{Idle, Held, Parked}
use Rattle.rows.proofs.Marked.{all_at}
use Rattle.workers.specs.Moves.{next_status_of}
use Rattle.workers.specs.declared.moves.Move.{Move}
use Rattle.workers.specs.declared.moves.Move.TheVariants.{Begin, Park, Resume, Recall, Finish}
use Rattle.store.specs.Fits.{order_fits, on_oldest, status_fits, fits, order_count_of, begins_oldest}

-- ⟨ tests over lists ⟩

all_each : {A : Type 0} (p q : A → Bool) → ((x : A) → p x ≡ true → q x ≡ true) → (xs : List A) → all p xs ≡ true → all q xs ≡ true
unfolding all
all_each p q f [] h = refl
all_each p q f (x ∷ xs) h = let (a, b) = and_parts (p x) _ h in and_from _ _ (f x a) (all_each p q f xs b)

all_put : {A : Type 0} (p : A → Bool) (xs : List A) (i : ℕ) (y : A) → all p xs ≡ true → p y ≡ true → all p (set xs i y) ≡ true
unfolding all
all_put p [] i y h e = refl
all_put p (x ∷ xs) zero y h e = and_from _ _ e (and_parts (p x) _ h).1
all_put p (x ∷ xs) (suc i) y h e = let (a, b) = and_parts (p x) _ h in and_from _ _ a (all_put p xs i y b e)

all_push : {A : Type 0} (p : A → Bool) (xs : List A) (y : A) → all p xs ≡ true → p y ≡ true → all p (xs ++ y ∷ []) ≡ true
unfolding all
all_push p [] y h e = and_from _ _ e refl
all_push p (x ∷ xs) y h e = let (a, b) = and_parts (p x) _ h in and_from _ _ a (all_push p xs y b e)

all_rest : {A : Type 0} (p : A → Bool) (xs : List A) → all p xs ≡ true → all p (drop 1 xs) ≡ true
unfolding all
all_rest p [] h = refl
all_rest p (x ∷ xs) h = (and_parts (p x) _ h).1

-- ⟨ one worker ⟩

pub fits_at : (n : ℕ) (ws : List Worker) (w : ℕ) → w < length ws → all (fits n) ws ≡ true → (all (order_fits n) (worker_at ws w).orders ≡ true) × (status_fits (worker_at ws w).orders (worker_at ws w).status ≡ true)
fits_at n ws w l h = and_parts _ _ (all_at (fits n) ws w no_worker l h)

order_more : (n m : ℕ) (o : Order) → n ≤ m → order_fits n o ≡ true → order_fits m o ≡ true
order_more n m o l h = let (a, b) = and_parts (leb 1 o.number) _ h in and_from _ _ a (le-leb o.number m (omega (arith, leb-true o.number n b)))

-- a longer log fits all that a shorter one does
pub fits_more : (n m : ℕ) (ws : List Worker) → n ≤ m → all (fits n) ws ≡ true → all (fits m) ws ≡ true
fits_more n m ws l h =
    all_each (fits n) (fits m) (λ x f.
    let (a, b) = and_parts (all (order_fits n) x.orders) _ f in
    and_from _ _ (all_each (order_fits n) (order_fits m) (λ o g. order_more n m o l g) x.orders a) b)
    ws h

oldest_stays : (orders : List Order) (o : Order) (k : ℕ) → on_oldest orders k ≡ true → on_oldest (orders ++ o ∷ []) k ≡ true
oldest_stays [] o k h = absurd (both_ways false refl h)
oldest_stays (x ∷ xs) o k h = h

status_pushed : (orders : List Order) (o : Order) (status : Status) → status_fits orders status ≡ true → status_fits (orders ++ o ∷ []) status ≡ true
status_pushed orders o Idle h = refl
status_pushed orders o (Held k) h = oldest_stays orders o k h
status_pushed orders o (Parked k) h = oldest_stays orders o k h

pub pushed_fits : (n : ℕ) (x : Worker) (o : Order) → all (order_fits n) x.orders ≡ true → status_fits x.orders x.status ≡ true → 1 ≤ o.number → o.number ≤ n → fits n (pushed o x) ≡ true
pushed_fits n x o a b p l = and_from _ _ (all_push (order_fits n) x.orders o a (and_from _ _ (le-leb _ _ p) (le-leb _ _ l))) (status_pushed x.orders o x.status b)

pub posting_fits : (n k : ℕ) (x : Worker) → all (order_fits n) x.orders ≡ true → fits n (posting k x) ≡ true
posting_fits n k x a = and_from _ _ (all_rest (order_fits n) x.orders a) refl

pub status_fits_lem : (n : ℕ) (x : Worker) (status : Status) → all (order_fits n) x.orders ≡ true → status_fits x.orders status ≡ true → fits n (in_status status x) ≡ true
status_fits_lem n x status a b = and_from _ _ a b

pub some_orders : (orders : List Order) → is_empty orders ≡ false → 0 < length orders
some_orders [] e = absurd (both_ways true e refl)
some_orders (o ∷ rest) e = omega arith

-- a worker that has an order is one of them
pub one_of : (ws : List Worker) (w : ℕ) → is_empty (worker_at ws w).orders ≡ false → w < length ws
one_of ws w e =
    elim (cases_lt w (length ws)) [
      | inl l ↦ l
      | inr l ↦ absurd (both_ways true (subst (λ (x : Worker). is_empty x.orders ≡ false) (get_or_past ws w no_worker l) e) refl)
    ]

-- ⟨ all workers, where worker w becomes x ⟩

module _ (ws after : List Worker) (w : ℕ) (x : Worker) (e : after ≡ set ws w x) where
  pub all_fit : (n : ℕ) → all (fits n) ws ≡ true → fits n x ≡ true → all (fits n) after ≡ true
  all_fit n h f = ap (all (fits n)) e ∙ all_put (fits n) ws w x h f

  pub all_counted : w < length ws → sum_by order_count_of after + order_count_of (worker_at ws w) ≡ sum_by order_count_of ws + order_count_of x
  all_counted l = ap (λ (xs : List Worker). sum_by order_count_of xs + order_count_of (worker_at ws w)) e ∙ sum_by-set order_count_of ws w x no_worker l

-- ⟨ a call that moves a worker ⟩

none_some : {A : Type 0} (x : A) → ◌≡◌ {A = Option A} None (Some x) → ⊥
none_some x e = let z : ◌≡◌ {A = ℕ} 0 1 = cc in omega arith

on_oldest_none : (k : ℕ) → on_oldest [] k ≡ true → ⊥
on_oldest_none k h = both_ways false refl h

idle_stays : (call : Move) (status : Status) → begins_oldest [] call ≡ true → next_status_of Idle call ≡ Some status → ⊥
idle_stays (Begin k) status b e = on_oldest_none k b
idle_stays (Park k) status b e = none_some status e
idle_stays Resume status b e = none_some status e
idle_stays Recall status b e = none_some status e
idle_stays (Finish k) status b e = none_some status e

-- a worker that a call moves is one of the sixteen
pub moves_low : (ws : List Worker) (w : ℕ) (call : Move) (status : Status) → length ws ≡ 16 → begins_oldest (worker_at ws w).orders call ≡ true → next_status_of (worker_at ws w).status call ≡ Some status → w < 16
moves_low ws w call status long b e =
    elim (cases_lt w 16) [
      | inl l ↦ l
      | inr l ↦
          let none = get_or_past ws w no_worker (omega arith) in
          absurd (idle_stays call status (subst (λ (x : Worker). begins_oldest x.orders call ≡ true) none b) (subst (λ (x : Worker). next_status_of x.status call ≡ Some status) none e))
    ]

some_is : {A : Type 0} (x y : A) → ◌≡◌ {A = Option A} (Some x) (Some y) → x ≡ y
some_is x y e = cc

-- where a park or a finish fits, its number is the one that is held
same_number : (j k : ℕ) (new status : Status) → cond (eqb j k) (Some new) None ≡ Some status → (j ≡ k) × (new ≡ status)
same_number j k new status e =
    elim (cases_Bool (eqb j k)) [
      | inl t ↦ (eqb-true j k t, some_is new status (sym (cond-true (eqb j k) (Some new) None t) ∙ e))
      | inr f ↦ absurd (none_some status (sym (cond-false (eqb j k) (Some new) None f) ∙ e))
    ]

-- and its new status fits its orders
pub moves_fit : (orders : List Order) (old : Status) (call : Move) (new : Status) → status_fits orders old ≡ true → begins_oldest orders call ≡ true → next_status_of old call ≡ Some new → status_fits orders new ≡ true
moves_fit orders Idle (Begin k) new h b e = subst (λ s. status_fits orders s ≡ true) (some_is (Held k) new e) b
moves_fit orders Idle (Park k) new h b e = absurd (none_some new e)
moves_fit orders Idle Resume new h b e = absurd (none_some new e)
moves_fit orders Idle Recall new h b e = absurd (none_some new e)
moves_fit orders Idle (Finish k) new h b e = absurd (none_some new e)
moves_fit orders (Held j) (Begin k) new h b e = absurd (none_some new e)
moves_fit orders (Held j) (Park k) new h b e =
    let (same, is) = same_number j k (Parked k) new e in
    subst (λ s. status_fits orders s ≡ true) is (subst (λ i. on_oldest orders i ≡ true) same h)
moves_fit orders (Held j) Resume new h b e = absurd (none_some new e)
moves_fit orders (Held j) Recall new h b e = subst (λ s. status_fits orders s ≡ true) (some_is (Parked j) new e) h
moves_fit orders (Held j) (Finish k) new h b e = subst (λ s. status_fits orders s ≡ true) (same_number j k Idle new e).1 refl
moves_fit orders (Parked j) (Begin k) new h b e = absurd (none_some new e)
moves_fit orders (Parked j) (Park k) new h b e = absurd (none_some new e)
moves_fit orders (Parked j) Resume new h b e = subst (λ s. status_fits orders s ≡ true) (some_is (Held j) new e) h
moves_fit orders (Parked j) Recall new h b e = absurd (none_some new e)
moves_fit orders (Parked j) (Finish k) new h b e = absurd (none_some new e)

-- ⟨ a worker that is held ⟩

oldest_fits : (n k : ℕ) (orders : List Order) → all (order_fits n) orders ≡ true → on_oldest orders k ≡ true → (is_empty orders ≡ false) × (1 ≤ k) × (k ≤ n)
unfolding all
oldest_fits n k [] a h = absurd (both_ways false refl h)
oldest_fits n k (o ∷ rest) a h =
    let same = eqb-true o.number k h in
    let (one, last) = and_parts (leb 1 o.number) _ (and_parts (order_fits n o) _ a).0 in
    (refl, omega (arith, leb-true 1 o.number one), omega (arith, leb-true o.number n last))

held_is : (k : ℕ) (orders : List Order) (status : Status) → is_held_on k status ≡ true → status_fits orders status ≡ true → on_oldest orders k ≡ true
held_is k orders Idle h f = absurd (both_ways false refl h)
held_is k orders (Held j) h f = subst (λ i. on_oldest orders i ≡ true) (eqb-true j k h) f
held_is k orders (Parked j) h f = absurd (both_ways false refl h)

-- of a worker that is held on k: it is one of the sixteen, it has an order, and k is a number of the log
pub record HeldOn (n : ℕ) (ws : List Worker) (w k : ℕ) : Type 0 where
  pub low : w < 16
  pub some : is_empty (worker_at ws w).orders ≡ false
  pub first : 1 ≤ k
  pub last : k ≤ n

pub held_on : (n : ℕ) (ws : List Worker) (w k : ℕ) → length ws ≡ 16 → all (fits n) ws ≡ true → is_held_on k (worker_at ws w).status ≡ true → HeldOn n ws w k
held_on n ws w k long h e =
    let low : w < 16 = elim (cases_lt w 16) [
      | inl l ↦ l
      | inr l ↦ absurd (both_ways false refl (subst (λ (x : Worker). is_held_on k x.status ≡ true) (get_or_past ws w no_worker (omega arith)) e))
    ] in
    let (a, b) = fits_at n ws w (omega arith) h in
    let (some, first, last) = oldest_fits n k (worker_at ws w).orders a (held_is k (worker_at ws w).orders (worker_at ws w).status e b) in
    record { low = low; some = some; first = first; last = last }
