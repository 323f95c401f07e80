-- Tests over lists and numbers, places of a list after a write, and answers that are chains of checks.
use Rattle.std.proofs.Common.{◌≡◌, ℕ, zero, suc, ◌<◌, ◌≤◌, Bool, true, false, cond, eqb, ◌⊎◌, List, [], ◌∷◌, length, get_or, set, Ok, Result, sym, refl, ap, ◌∙◌, subst, inl, inr, arith, get_or-set_other, get_or-set_same}
use mathlib.Core.Path.{fun_ext}
use Rattle.std.specs.List.{AllByRecursion as All}
use Rattle.std.proofs.lemmas.Bool.{both_ways, eqb-true, eqb-false, eq-eqb, ne_eqb, cases_eq, cases_Bool, and_parts, or_cases, or_left, or_right, cond-true, cond-false, cond_both}
use Rattle.terms.specs.Refusals.{refuse}
use Rattle.model.specs.Faults.{CallFault}
use Rattle.model.specs.Finding.{any, all, exists, last}

-- ⟨ tests over a list ⟩

-- of elements that all have Q one passes; and whatever else that one passes, the list passes
pub any_in : {A : Type 0} (Q : A → Type 0) (p : A → Bool) (xs : List A) → All Q xs → any p xs ≡ true → (a : A) × Q a × (p a ≡ true) × ((q : A → Bool) → q a ≡ true → any q xs ≡ true)
unfolding any
any_in Q p [] f h = absurd (both_ways false refl h)
any_in Q p (x ∷ xs) f h =
    elim (or_cases (p x) (any p xs) h) [
      | inl here ↦ (x, f.0, here, λ q e. or_left (q x) (any q xs) e)
      | inr there ↦ let (a, b, c, d) = any_in Q p xs f.1 there in (a, b, c, λ q e. or_right (q x) (any q xs) (d q e))
    ]

-- what holds of everything holds of each element
pub each : {A : Type 0} (Q : A → Type 0) → ((x : A) → Q x) → (xs : List A) → All Q xs
each Q f [] = tt
each Q f (x ∷ xs) = (f x, each Q f xs)

pub any_some : {A : Type 0} (p : A → Bool) (xs : List A) → any p xs ≡ true → (a : A) × (p a ≡ true) × ((q : A → Bool) → q a ≡ true → any q xs ≡ true)
any_some p xs h = let (a, _, b, c) = any_in (λ _. Unit {0}) p xs (each _ (λ _. tt) xs) h in (a, b, c)

pub all_each : {A : Type 0} (p : A → Bool) (xs : List A) → all p xs ≡ true → (q : A → Bool) → any q xs ≡ true → (a : A) × (p a ≡ true) × (q a ≡ true)
unfolding any all
all_each p [] h q e = absurd (both_ways false refl e)
all_each p (x ∷ xs) h q e =
    let hs = and_parts (p x) (all p xs) h in
    elim (or_cases (q x) (any q xs) e) [
      | inl here ↦ (x, hs.0, here)
      | inr there ↦ all_each p xs hs.1 q there
    ]

-- ⟨ tests over the numbers below a bound ⟩

pub exists_some : (f : ℕ → Bool) (k : ℕ) → exists f k ≡ true → (e : ℕ) × (e < k) × (f e ≡ true)
unfolding exists
exists_some f zero h = absurd (both_ways false refl h)
exists_some f (suc k) h =
    elim (or_cases (f k) (exists f k) h) [
      | inl t ↦ (k, omega arith, t)
      | inr t ↦ let r = exists_some f k t in (r.0, omega arith, r.2)
    ]

pub exists_from : (f : ℕ → Bool) (k e : ℕ) → e < k → f e ≡ true → exists f k ≡ true
unfolding exists
exists_from f zero e l h = absurd (omega arith)
exists_from f (suc k) e l h =
    elim (cases_eq e k) [
      | inl q ↦ or_left (f k) (exists f k) (rw q at h)
      | inr q ↦ or_right (f k) (exists f k) (exists_from f k e (omega arith) h)
    ]

pub exists_same : (f g : ℕ → Bool) (k : ℕ) → ((e : ℕ) → e < k → f e ≡ g e) → exists f k ≡ exists g k
unfolding exists
exists_same f g zero h = refl
exists_same f g (suc k) h = rw (h k (omega arith), exists_same f g k (λ e l. h e (omega arith)))

-- among the numbers below k there is a lowest one that passes, or none passes
pub least : (f : ℕ → Bool) (k : ℕ) → ((j : ℕ) × (j < k) × (f j ≡ true) × ((i : ℕ) → i < j → f i ≡ false)) ⊎ ((j : ℕ) → j < k → f j ≡ false)
least f zero = inr (λ j l. absurd (omega arith))
least f (suc k) =
    elim (least f k) [
      | inl (j, l, t, none) ↦ inl (j, omega arith, t, none)
      | inr none ↦ elim (cases_Bool (f k)) [
        | inl t ↦ inl (k, omega arith, t, none)
        | inr t ↦ inr (λ j l. elim (cases_eq j k) [ inl e ↦ ap f e ∙ t | inr e ↦ none j (omega arith) ])
      ]
    ]

pub last_most : (f : ℕ → Bool) (k j : ℕ) → j < k → f j ≡ true → j ≤ last f k
unfolding last
last_most f zero j h e = omega arith
last_most f (suc k) j h e =
    elim (cases_Bool (f k)) [
      | inl t ↦ rw t (omega arith)
      | inr t ↦ rw t (elim (cases_eq j k) [ inl q ↦ absurd (both_ways (f k) t (rw q at e)) | inr q ↦ last_most f k j (omega arith) e ])
    ]

pub last_is : (f : ℕ → Bool) (k : ℕ) → 0 < last f k → (last f k < k) × (f (last f k) ≡ true)
unfolding last
last_is f zero h = absurd (omega arith)
last_is f (suc k) h =
    elim (cases_Bool (f k)) [
      | inl t ↦ rw t (omega arith, t)
      | inr t ↦ rw t (let r = last_is f k (rw t at h) in (omega arith, r.1))
    ]

pub last_none : (f : ℕ → Bool) → last f 1 ≡ 0
unfolding last
last_none f = elim (cases_Bool (f 0)) [ inl t ↦ rw t | inr t ↦ rw t ]

-- ⟨ a list after a write ⟩

-- what holds at the place that was written, and at every other, holds at every place
pub at_set : {A : Type 0} (xs : List A) (w : ℕ) (x d : A) (u : ℕ) (Q : A → Type 0) → w < length xs → (u ≡ w → Q x) → ((u ≡ w → ⊥) → Q (get_or xs u d)) → Q (get_or (set xs w x) u d)
at_set xs w x d u Q l same other =
    elim (cases_eq u w) [
      | inl e ↦ subst Q (sym (ap (λ i. get_or (set xs w x) i d) e ∙ get_or-set_same xs w x d l)) (same e)
      | inr e ↦ subst Q (sym (get_or-set_other xs w u x d e)) (other e)
    ]

-- ⟨ answers ⟩

-- an accepted answer passed the check
pub passed : {A : Type 0} (b : Bool) (fault : CallFault) (else : Result A CallFault) (x : A) → Ok x ≡ refuse b fault else → (b ≡ false) × (Ok x ≡ else)
passed true fault else x h = absurd (let z : ◌≡◌ {A = ℕ} 0 1 = cc in omega arith)
passed false fault else x h = (refl, h)

pub ok_same : {A : Type 0} (x y : A) → ◌≡◌ {A = Result A CallFault} (Ok x) (Ok y) → x ≡ y
ok_same x y h = cc

-- ⟨ a function after a write ⟩

unfoldable pub put : {A : Type 0} → (ℕ → A) → ℕ → A → ℕ → A
put f w x u = cond (eqb u w) x (f u)

pub put_same : {A : Type 0} (f : ℕ → A) (w : ℕ) (x : A) (u : ℕ) → u ≡ w → put f w x u ≡ x
unfolding put
put_same f w x u e = cond-true (eqb u w) x (f u) (eq-eqb u w e)

pub put_other : {A : Type 0} (f : ℕ → A) (w : ℕ) (x : A) (u : ℕ) → (u ≡ w → ⊥) → put f w x u ≡ f u
unfolding put
put_other f w x u e = cond-false (eqb u w) x (f u) (ne_eqb u w e)

pub put_both : {A : Type 0} (f : ℕ → A) (w : ℕ) (x : A) (u : ℕ) → (Q : A → Type 0) → (u ≡ w → Q x) → ((u ≡ w → ⊥) → Q (f u)) → Q (put f w x u)
unfolding put
put_both f w x u Q same other = cond_both (eqb u w) x (f u) Q (λ e. same (eqb-true u w e)) (λ e. other (eqb-false u w e))

-- a write into a list, seen as a function of the place
pub set-put : {A : Type 0} (xs : List A) (w : ℕ) (x d : A) → w < length xs → ◌≡◌ {A = ℕ → A} (λ u. get_or (set xs w x) u d) (put (λ u. get_or xs u d) w x)
set-put xs w x d l =
    fun_ext (λ u. at_set xs w x d u (λ y. y ≡ put (λ u. get_or xs u d) w x u) l (λ e. sym (put_same _ w x u e)) (λ e. sym (put_other _ w x u e)))

-- what the written value has as the old one had is as it was at every place
pub put_keeps : {A B : Type 0} (g : A → B) (f : ℕ → A) (w : ℕ) (x : A) → g x ≡ g (f w) → ◌≡◌ {A = ℕ → B} (λ u. g (put f w x u)) (λ u. g (f u))
put_keeps g f w x h = fun_ext (λ u. put_both f w x u (λ y. g y ≡ g (f u)) (λ e. h ∙ ap (λ v. g (f v)) (sym e)) (λ e. refl))
