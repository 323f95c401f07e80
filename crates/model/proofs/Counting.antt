-- Sums and counts over a list, element by element.
use Rattle.std.proofs.Common.{◌≡◌, ℕ, zero, suc, ◌+◌, ◌≤◌, List, [], ◌∷◌, map, length, get_or, sum_by, refl, ap, ◌∙◌, arith}
use Rattle.std.specs.List.{range_with_len, AllByRecursion as All}
use Rattle.std.proofs.lemmas.List.FromFn.{fill_by_all, sum_by-map-range_with_len_more}
use Rattle.std.proofs.lemmas.List.Sums.{sum_by-cons}

module _ {X : Type 0} where
  pub sum_split : (f g h : X → ℕ) (xs : List X) → All (λ x. f x ≡ g x + h x) xs → sum_by f xs ≡ sum_by g xs + sum_by h xs
  sum_split f g h [] a = refl
  sum_split f g h (x ∷ xs) a = omega (arith, sum_by-cons f x xs, sum_by-cons g x xs, sum_by-cons h x xs, a.0, sum_split f g h xs a.1)

  pub sum_same : (f g : X → ℕ) (xs : List X) → All (λ x. f x ≡ g x) xs → sum_by f xs ≡ sum_by g xs
  sum_same f g [] a = refl
  sum_same f g (x ∷ xs) a = omega (arith, sum_by-cons f x xs, sum_by-cons g x xs, a.0, sum_same f g xs a.1)

  pub sum_ones : (xs : List X) → sum_by (λ _. 1) xs ≡ length xs
  sum_ones [] = refl
  sum_ones (x ∷ xs) = omega (arith, sum_by-cons (λ _. 1) x xs, sum_ones xs)

  pub sum-map_by : {Y : Type 0} (f : X → ℕ) (g : Y → X) (ys : List Y) → sum_by f (map g ys) ≡ sum_by (λ y. f (g y)) ys
  sum-map_by f g [] = refl
  sum-map_by f g (y ∷ ys) = omega (arith, sum_by-cons f (g y) (map g ys), sum_by-cons (λ y. f (g y)) y ys, sum-map_by f g ys)

  -- a sum over a list is one over its places
  pub sum_places : (f : X → ℕ) (xs : List X) (n : ℕ) (d : X) → length xs ≡ n → sum_by f xs ≡ sum_by (λ i. f (get_or xs i d)) (range_with_len 0 n)
  sum_places f xs n d e = ap (sum_by f) (fill_by_all (λ i. get_or xs i d) xs n d e (λ k l. refl)) ∙ sum-map_by f (λ i. get_or xs i d) (range_with_len 0 n)

sum_more : (f : ℕ → ℕ) (n : ℕ) → sum_by f (range_with_len 0 (n + 1)) ≡ sum_by f (range_with_len 0 n) + f n
sum_more f n = omega (arith, sum-map_by f (λ i. i) (range_with_len 0 (n + 1)), sum-map_by f (λ i. i) (range_with_len 0 n), sum_by-map-range_with_len_more f (λ (i : ℕ). i) 0 n n (omega arith))

-- numbers that count nothing may be left out at the end
pub sum_front : (f : ℕ → ℕ) (n d : ℕ) → ((u : ℕ) → n ≤ u → f u ≡ 0) → sum_by f (range_with_len 0 (n + d)) ≡ sum_by f (range_with_len 0 n)
sum_front f n zero h = let e : n + 0 ≡ n = omega arith in ap (λ k. sum_by f (range_with_len 0 k)) e
sum_front f n (suc d) h =
    let e : n + suc d ≡ (n + d) + 1 = omega arith in
    ap (λ k. sum_by f (range_with_len 0 k)) e ∙ omega (arith, sum_more f (n + d), h (n + d) (omega arith), sum_front f n d h)
