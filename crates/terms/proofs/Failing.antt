-- The first element that passes a test is the first that fails its opposite.
use Rattle.std.proofs.Common.{◌≡◌, ℕ, ◌+◌, Bool, not, cond, ltb, List, [], ◌∷◌, length, Some, None, ap, refl, ◌∙◌}
use Rattle.std.specs.List.{prefix_len, position}
use Rattle.terms.specs.Failing.{first_failing}

pub position_fails : {A : Type 0} (test passes : A → Bool) → ((x : A) → not (test x) ≡ passes x) → (xs : List A) → position test xs ≡ first_failing passes xs
position_fails {A} test passes opposite xs = ap (λ (n : ℕ). cond (ltb n (length xs)) (Some n) None) (same xs)
  where
    same : (xs : List A) → prefix_len (λ x. not (test x)) xs ≡ prefix_len passes xs
    same [] = refl
    same (x ∷ xs) = ap (λ (b : Bool). cond b (1 + prefix_len (λ x. not (test x)) xs) 0) (opposite x) ∙ ap (λ (n : ℕ). cond (passes x) (1 + n) 0) (same xs)
