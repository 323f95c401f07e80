-- What orders and records show.
use Rattle.std.proofs.Common.{◌≡◌, ℕ, ◌<◌, cond, eqb, List, [], ◌∷◌, ◌++◌, map, get_or, take, drop, Some, None, Option, length, sym, refl, ap, true, false, arith, MatchOption}
use Rattle.std.proofs.lemmas.List.FromFn.{get_or-map-range_with_len}
use Rattle.rings.specs.Rings.{around, held, IsOldestAt}
use Rattle.rings.specs.declared.places.Places.{Places}
use Rattle.model.specs.State.{Order, is_empty, oldest_of}
use Rattle.workers.specs.Orders.{plain_needs}
use Rattle.workers.specs.Records.{worker_of, IsOldestIn}
use Rattle.workers.specs.declared.record.WorkerRecord.{WorkerRecord}

-- a plain order needs something from worker 0 alone
pub plain_need : (n v : ℕ) → v < 16 → get_or (plain_needs n) v 0 ≡ cond (eqb v 0) n 0
unfolding plain_needs
plain_need n v l = get_or-map-range_with_len (λ u. cond (eqb u 0) n 0) 0 16 v v 0 l (omega arith)

-- a ring of no entries holds none
pub held_none : {E : Type 0} (row : List E) (p : Places) → p.len ≡ 0 → held row p ≡ []
unfolding around
held_none row p e = ap (λ n. take n (drop p.first (row ++ row))) e

-- what a ring says of the place of its oldest entry is what the record says of its oldest order
pub oldest_in : {E : Type 0} (shown : E → Order) (x : WorkerRecord E) (r : Option ℕ) → MatchOption r (held x.row x.places ≡ []) (λ p. IsOldestAt x.row x.places p) → MatchOption r (is_empty (worker_of shown x).orders ≡ true) (λ place. IsOldestIn shown x place)
oldest_in {E} shown x None h = ap (λ es. is_empty (map shown es)) h
oldest_in {E} shown x (Some p) h = record {
  low = h.low;
  some = not_empty (held x.row x.places) h.some;
  at = λ d. sym (ap (λ es. oldest_of (map shown es)) (h.at d));
}
  where
    not_empty : (es : List E) → 0 < length es → is_empty (map shown es) ≡ false
    not_empty [] l = absurd (omega arith)
    not_empty (e ∷ es) l = refl
