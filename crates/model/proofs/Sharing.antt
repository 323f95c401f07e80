-- Accesses, the partitions that intentions share, and their workers.
use Rattle.std.proofs.Common.{◌≡◌, ℕ, ◌<◌, ◌≤◌, true, eqb, List, [], ◌∷◌, sym, refl, ap, ◌∙◌, inl, inr, arith}
use Rattle.std.specs.List.{AllByRecursion as All}
use Rattle.std.proofs.lemmas.Bool.{eqb-true, eq-eqb, cases_lt, cases_Bool, and_parts, and_from, or_cases, or_left, cond_both}
use Rattle.terms.specs.Maps.{MapMeaning, LawfulMap}
use Rattle.terms.specs.Rules.{RuleMeaning, clashes}
use Rattle.model.specs.Finding.{any, all}
use Rattle.model.specs.Words.{Access, Intention, Setup, is_at, has, lies_in, touches, Shares, home, worker}
use Rattle.model.specs.Book.{clashes_at, conflicts}
use Rattle.model.proofs.Found.{any_in, any_some, all_each}

pub is_at_lem : (c m : ℕ) (a : Access) → is_at c m a ≡ true → (a.cell ≡ c) × (a.mode ≡ m)
is_at_lem c m a h =
    let r = and_parts (eqb a.cell c) (eqb a.mode m) h in
    (eqb-true a.cell c r.0, eqb-true a.mode m r.1)

pub at_itself : (a : Access) → is_at a.cell a.mode a ≡ true
at_itself a = and_from _ _ (eq-eqb a.cell a.cell refl) (eq-eqb a.mode a.mode refl)

-- ⟨ accesses that the rule and the map know ⟩

-- an access that append lets in
abbrev pub Known : Setup → Access → Type 0
Known P a = (a.mode < P.rule.modes) × (a.cell ≤ 1023)

pub has_known : (P : Setup) (x : Intention) (c m : ℕ) → All (Known P) x.accesses → has x c m ≡ true → (m < P.rule.modes) × (c ≤ 1023)
unfolding has
has_known P x c m f h =
    let (a, k, t, _) = any_in (Known P) (is_at c m) x.accesses f h in
    let (u, v) = is_at_lem c m a t in
    (omega (arith, k.0), omega (arith, k.1))

-- ⟨ partitions of both ⟩

has-touches : (m : MapMeaning) (x : Intention) (c mode : ℕ) → has x c mode ≡ true → touches m x (m.partition c) ≡ true
unfolding has touches
has-touches m x c mode h =
    let r = any_some _ x.accesses h in
    r.2 (lies_in m (m.partition c)) (eq-eqb _ _ (ap m.partition (is_at_lem c mode r.0 r.1).0))

pub has_shares : (m : MapMeaning) (x y : Intention) (c i j : ℕ) → has x c i ≡ true → has y c j ≡ true → Shares m x y
has_shares m x y c i j h g = (m.partition c, has-touches m x c i h, has-touches m y c j g)

-- ⟨ conflicts ⟩

pub conflict_some : (r : RuleMeaning) (x y : Intention) → conflicts r x y ≡ true → (c e l : ℕ) × (has x c e ≡ true) × (has y c l ≡ true) × (clashes r e l ≡ true)
unfolding has conflicts
conflict_some r x y h =
    let (a, t, ups) = any_some _ x.accesses h in
    let (b, u, up) = any_some (clashes_at r a) y.accesses t in
    let (same, clash) = and_parts (eqb a.cell b.cell) (clashes r a.mode b.mode) u in
    (a.cell, a.mode, b.mode, ups _ (at_itself a), up _ (and_from _ _ (eq-eqb b.cell a.cell (sym (eqb-true _ _ same))) (eq-eqb b.mode b.mode refl)), clash)

pub conflict_from : (r : RuleMeaning) (x y : Intention) (c e l : ℕ) → has x c e ≡ true → has y c l ≡ true → clashes r e l ≡ true → conflicts r x y ≡ true
unfolding has conflicts
conflict_from r x y c e l h g k =
    let (a, t, ups) = any_some _ x.accesses h in
    let (b, u, up) = any_some _ y.accesses g in
    let (ac, am) = is_at_lem c e a t in
    let (bc, bm) = is_at_lem c l b u in
    let clash : clashes r a.mode b.mode ≡ true = rw (am, bm) k in
    ups (λ a. any (clashes_at r a) y.accesses) (up (clashes_at r a) (and_from _ _ (eq-eqb a.cell b.cell (ac ∙ sym bc)) clash))

-- ⟨ workers ⟩

module _ (m : MapMeaning) where
  home_one : (xs : List Access) (q : ℕ) → 0 < home m xs → any (lies_in m q) xs ≡ true → q ≡ home m xs
  unfolding home any
  home_one [] q h t = absurd (omega arith)
  home_one (a ∷ rest) q h t =
      elim (cases_Bool (all (lies_in m (m.partition a.cell)) rest)) [
        | inl e ↦ rw e
            (elim (or_cases (eqb (m.partition a.cell) q) _ t) [
              | inl here ↦ sym (eqb-true _ _ here)
              | inr there ↦ let r = all_each _ rest e _ there in omega (arith, eqb-true _ _ r.1, eqb-true _ _ r.2)
            ])
        | inr e ↦ absurd (let z : 0 < 0 = rw e at h in omega arith)
      ]

  home-touches : (xs : List Access) → 0 < home m xs → any (lies_in m (home m xs)) xs ≡ true
  unfolding home any
  home-touches [] h = absurd (omega arith)
  home-touches (a ∷ rest) h =
      elim (cases_Bool (all (lies_in m (m.partition a.cell)) rest)) [
        | inl e ↦ rw e (or_left _ _ (eq-eqb (m.partition a.cell) (m.partition a.cell) refl))
        | inr e ↦ absurd (let z : 0 < 0 = rw e at h in omega arith)
      ]

  -- a plain intention touches its worker's partition and no other
  pub worker_one : (x : Intention) (q : ℕ) → 0 < worker m x → touches m x q ≡ true → q ≡ worker m x
  unfolding worker touches
  worker_one x q h t = home_one x.accesses q h t

  pub worker-touches : (x : Intention) → 0 < worker m x → touches m x (worker m x) ≡ true
  unfolding worker touches
  worker-touches x h = home-touches x.accesses h

module _ (m : MapMeaning) (L : LawfulMap m) where
  partition_most : (c : ℕ) → m.partition c ≤ m.partitions
  partition_most c = elim (cases_lt 1023 c) [ inl l ↦ omega (arith, L.none c l) | inr l ↦ L.last c l ]

  home_most : (xs : List Access) → home m xs ≤ m.partitions
  unfolding home
  home_most [] = omega arith
  home_most (a ∷ rest) = cond_both (all (lies_in m (m.partition a.cell)) rest) _ _ (λ n. n ≤ m.partitions) (λ e. partition_most a.cell) (λ e. omega arith)

  pub worker_most : (x : Intention) → worker m x ≤ m.partitions
  unfolding worker
  worker_most x = home_most x.accesses
