-- A number that a worker has.
use Rattle.std.proofs.Common.{◌≡◌, ℕ, ◌<◌, ltb, Some, None, Option, sym, ◌∙◌, inl, inr, arith}
use Rattle.std.proofs.lemmas.Bool.{cases_Bool, cond-true, cond-false, ltb-true}
use Rattle.terms.specs.Workers.{worker_numbered}

-- it is the worker's, and below 16
pub numbered : (n w : ℕ) → worker_numbered n ≡ Some w → (n ≡ w) × (n < 16)
numbered n w e =
    elim (cases_Bool (ltb n 16)) [
      | inl t ↦ (same n w (sym (cond-true (ltb n 16) (Some n) None t) ∙ e), ltb-true n 16 t)
      | inr f ↦ absurd (none_some w (sym (cond-false (ltb n 16) (Some n) None f) ∙ e))
    ]
  where
    same : (x y : ℕ) → ◌≡◌ {A = Option ℕ} (Some x) (Some y) → x ≡ y
    same x y e = cc

    none_some : (x : ℕ) → ◌≡◌ {A = Option ℕ} None (Some x) → ⊥
    none_some x e = let z : ◌≡◌ {A = ℕ} 0 1 = cc in omega arith
