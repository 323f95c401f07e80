-- The table of the workers, read and written at one worker.
use Rattle.std.proofs.Common.{◌≡◌, ℕ, ◌+◌, Bool, true, false, ◌||◌, replicate, zero, suc, ◌-◌, ◌<◌, List, [], ◌∷◌, length, get_or, set, take, sum_by, ◌≤◌, vec_items, sym, refl, ap, ◌∙◌, arith}
use Rattle.std.proofs.lemmas.List.{length-map, get_or-map, map-set, take_all}
use Rattle.std.proofs.lemmas.List.Sums.{sum_by_more}
use Rattle.model.specs.State.{Worker, worker_at, no_worker, no_workers}
use Rattle.model.specs.Finding.{exists}
use Rattle.std.specs.List.{list_any, range_with_len}
use Rattle.workers.specs.declared.plain_order.PlainOrder.{PlainOrder}
use Rattle.workers.specs.declared.record.WorkerRecord.{WorkerRecord}
use Rattle.workers.specs.declared.table.Workers.{Workers}
use Rattle.workers.specs.Views.{plain_workers, workers_of}
use Rattle.workers.specs.Orders.{plain_order, joint_order}
use Rattle.workers.specs.Records.{worker_of}

pub get_or-rest : {A : Type 0} (x : A) (xs : List A) (i : ℕ) (d : A) → 0 < i → get_or (x ∷ xs) i d ≡ get_or xs (i - 1) d
get_or-rest x xs zero d h = absurd (omega arith)
get_or-rest x xs (suc i) d h = let e : i ≡ suc i - 1 = omega arith in ap (λ j. get_or xs j d) e

set_rest : {A : Type 0} (x : A) (xs : List A) (i : ℕ) (y : A) → 0 < i → x ∷ set xs (i - 1) y ≡ set (x ∷ xs) i y
set_rest x xs zero y h = absurd (omega arith)
set_rest x xs (suc i) y h = let e : suc i - 1 ≡ i = omega arith in ap (λ j. x ∷ set xs j y) e

pub workers-length : (t : Workers) → length (workers_of t) ≡ 16
workers-length t = omega (arith, length-map (vec_items t.plain) (worker_of plain_order), t.plain.ok.0, t.manned)

-- a worker that takes plain orders has a record
pub plain_there : (t : Workers) (w : ℕ) → 0 < w → w < 16 → (x : WorkerRecord PlainOrder) × (x ≡ get_or (vec_items t.plain) (w - 1) x)
plain_there t w some low = there (vec_items t.plain) (w - 1) (omega (arith, t.plain.ok.0, t.manned))
  where
    there : {A : Type 0} (xs : List A) (i : ℕ) → i < length xs → (x : A) × (x ≡ get_or xs i x)
    there [] i h = absurd (omega arith)
    there (x ∷ xs) zero h = (x, refl)
    there (x ∷ xs) (suc i) h = there xs i (omega arith)

-- worker 0 has the record of joint orders
pub at_joint : (t : Workers) (w : ℕ) → w ≡ 0 → worker_at (workers_of t) w ≡ worker_of joint_order t.joint
at_joint t w e = ap (worker_at (workers_of t)) e

-- worker w has the record x
pub at_plain : (t : Workers) (w : ℕ) (x : WorkerRecord PlainOrder) → 0 < w → w < 16 → x ≡ get_or (vec_items t.plain) (w - 1) x → worker_at (workers_of t) w ≡ worker_of plain_order x
at_plain t w x some low is =
    get_or-rest (worker_of joint_order t.joint) (plain_workers (vec_items t.plain)) w no_worker some
    ∙ get_or-map (worker_of plain_order) (vec_items t.plain) (w - 1) x no_worker (omega (arith, t.plain.ok.0, t.manned))
    ∙ ap (worker_of plain_order) (sym is)

-- worker w, whose record stands at i - 1, becomes y, which shows what h makes of it
pub wrote_plain : (t : Workers) (w i : ℕ) → i ≡ w → 0 < i → i < 16 → (x : WorkerRecord PlainOrder) → x ≡ get_or (vec_items t.plain) (i - 1) x → (y : WorkerRecord PlainOrder) (h : Worker → Worker) → worker_of plain_order y ≡ h (worker_of plain_order x) → worker_of joint_order t.joint ∷ plain_workers (set (vec_items t.plain) (i - 1) y) ≡ set (workers_of t) w (h (worker_at (workers_of t) w))
wrote_plain t w i same some low x is y h e =
    ap (λ (xs : List Worker). worker_of joint_order t.joint ∷ xs) (map-set (worker_of plain_order) (vec_items t.plain) (i - 1) y)
    ∙ set_rest (worker_of joint_order t.joint) (plain_workers (vec_items t.plain)) i (worker_of plain_order y) some
    ∙ ap (set (workers_of t) i) (e ∙ ap h (sym (at_plain t i x some low is)))
    ∙ ap (λ (k : ℕ). set (workers_of t) k (h (worker_at (workers_of t) k))) same

-- worker 0 becomes y, which is what h makes of it
pub wrote_joint : (t : Workers) (w : ℕ) (y : Worker) (h : Worker → Worker) → w ≡ 0 → y ≡ h (worker_of joint_order t.joint) → y ∷ plain_workers (vec_items t.plain) ≡ set (workers_of t) w (h (worker_at (workers_of t) w))
wrote_joint t w y h z e =
    ap (λ (v : Worker). v ∷ plain_workers (vec_items t.plain)) e
    ∙ ap (λ (i : ℕ). set (workers_of t) i (h (worker_at (workers_of t) i))) (sym z)

-- what is summed of worker 0 and the first plain workers, and one more of them
pub sum_next : (f : Worker → ℕ) (t : Workers) (i : ℕ) (x : WorkerRecord PlainOrder) → i < length (vec_items t.plain) → x ≡ get_or (vec_items t.plain) i x → sum_by f (take (i + 1 + 1) (workers_of t)) ≡ sum_by f (take (i + 1) (workers_of t)) + f (worker_of plain_order x)
sum_next f t i x there is =
    sum_by_more f (workers_of t) (i + 1) no_worker (omega (arith, workers-length t, t.manned, t.plain.ok.0))
    ∙ ap (λ y. sum_by f (take (i + 1) (workers_of t)) + f y) (get_or-rest (worker_of joint_order t.joint) (plain_workers (vec_items t.plain)) (i + 1) no_worker (omega arith) ∙ ap (λ k. get_or (plain_workers (vec_items t.plain)) k no_worker) (omega arith) ∙ get_or-map (worker_of plain_order) (vec_items t.plain) i x no_worker there ∙ ap (worker_of plain_order) (sym is))

-- and once all of them are
pub sum_whole : (f : Worker → ℕ) (t : Workers) (i : ℕ) → 15 ≤ i → sum_by f (take (i + 1) (workers_of t)) ≡ sum_by f (workers_of t)
sum_whole f t i all = ap (sum_by f) (take_all (i + 1) (workers_of t) (omega (arith, workers-length t)))

-- what a table just made shows
pub none_yet : (x : Worker) (xs : List Worker) → x ≡ no_worker → xs ≡ replicate 15 no_worker → x ∷ xs ≡ no_workers
unfolding no_workers
none_yet x xs e es = ap (λ (y : Worker). y ∷ xs) e ∙ ap (λ (ys : List Worker). no_worker ∷ ys) es

-- some number below n passes where some of the numbers from 0 on, n of them, does
pub any_below : (f : ℕ → Bool) (n : ℕ) → list_any f (range_with_len 0 n) ≡ exists f n
unfolding exists
any_below f zero = refl
any_below f (suc n) = one_more 0 n ∙ ap (λ (j : ℕ). f j || list_any f (range_with_len 0 n)) (omega arith) ∙ ap (λ (b : Bool). f n || b) (any_below f n)
  where
    turned : (x y z : Bool) → (x || (y || z)) ≡ (y || (x || z))
    turned true true z = refl
    turned true false z = refl
    turned false y z = refl

    one_more : (a k : ℕ) → list_any f (range_with_len a (suc k)) ≡ (f (a + k) || list_any f (range_with_len a k))
    one_more a zero = let e : a ≡ a + 0 = omega arith in ap (λ (j : ℕ). f j || false) e
    one_more a (suc k) =
        let e : a + 1 + k ≡ a + suc k = omega arith in
        ap (λ (b : Bool). f a || b) (one_more (a + 1) k ∙ ap (λ (j : ℕ). f j || list_any f (range_with_len (a + 1) k)) e)
        ∙ turned (f a) (f (a + suc k)) (list_any f (range_with_len (a + 1) k))
