-- The book's equation: a number is aborted exactly when a committed one past its snapshot conflicts with it.
use Rattle.std.proofs.Common.{◌≡◌, ℕ, zero, suc, ◌<◌, ◌≤◌, true, false, ◌&&◌, ltb, leb, sym, refl, ◌∙◌, inl, inr, arith}
use Rattle.std.proofs.lemmas.Bool.{both_ways, ltb-true, lt-ltb, le-leb, lt-leb, cases_eq, and_parts, and_from, not-true, not-false, cond-true, cond-false}
use Rattle.terms.specs.Rules.{RuleMeaning}
use Rattle.model.specs.Finding.{exists}
use Rattle.model.specs.Words.{Intention}
use Rattle.model.specs.Book.{conflicts, book, commits}
use Rattle.model.proofs.Found.{exists_some, exists_from, exists_same}

module _ (r : RuleMeaning) (it : ℕ → Intention) where
  -- a longer book says the same of a number
  book_upto : (k j : ℕ) → j ≤ k → book r it k j ≡ commits r it j
  unfolding book commits
  book_upto zero j h = let e : j ≡ 0 = omega arith in rw e
  book_upto (suc k) j h =
      elim (cases_eq j (suc k)) [
        | inl e ↦ rw e
        | inr e ↦ cond-true (leb j k) _ _ (le-leb j k (omega arith)) ∙ book_upto k j (omega arith)
      ]

  pub book_aborted : (k : ℕ) → 0 < k → commits r it k ≡ false → (e : ℕ) × ((it k).snapshot < e) × (e < k) × (commits r it e ≡ true) × (conflicts r (it e) (it k) ≡ true)
  unfolding book commits
  book_aborted zero h b = absurd (omega arith)
  book_aborted (suc k) h b =
      let g : exists (λ e. ltb (it (suc k)).snapshot e && (book r it k e && conflicts r (it e) (it (suc k)))) (suc k) ≡ true = not-false _ (sym (cond-false (leb (suc k) k) _ _ (lt-leb (suc k) k (omega arith))) ∙ b) in
      let (e, l, t) = exists_some _ (suc k) g in
      let (x, y) = and_parts (ltb (it (suc k)).snapshot e) _ t in
      let (u, v) = and_parts (book r it k e) (conflicts r (it e) (it (suc k))) y in
      (e, ltb-true _ _ x, l, sym (book_upto k e (omega (arith, l))) ∙ u, v)

  pub book_committed : (k : ℕ) → commits r it k ≡ true → (e : ℕ) → (it k).snapshot < e → e < k → commits r it e ≡ true → conflicts r (it e) (it k) ≡ true → ⊥
  unfolding book commits
  book_committed zero b e l h c d = omega arith
  book_committed (suc k) b e l h c d =
      let g = not-true _ (sym (cond-false (leb (suc k) k) _ _ (lt-leb (suc k) k (omega arith))) ∙ b) in
      both_ways _ g (exists_from _ (suc k) e h (and_from _ _ (lt-ltb _ _ l) (and_from _ _ (book_upto k e (omega arith) ∙ c) d)))

-- the verdict of a number hangs on the intentions up to it alone
module _ (r : RuleMeaning) (it it' : ℕ → Intention) where
  book_same : (k : ℕ) → ((j : ℕ) → j ≤ k → it j ≡ it' j) → (j : ℕ) → book r it k j ≡ book r it' k j
  unfolding book
  book_same zero h j = refl
  book_same (suc k) h j =
      let now = exists_same (λ e. ltb (it (suc k)).snapshot e && (book r it k e && conflicts r (it e) (it (suc k)))) (λ e. ltb (it' (suc k)).snapshot e && (book r it' k e && conflicts r (it' e) (it' (suc k)))) (suc k) (λ e l. rw (h (suc k) (omega arith), h e (omega arith), book_same k (λ i m. h i (omega arith)) e)) in
      rw (book_same k (λ i m. h i (omega arith)) j, now)

  pub commits_same : (k : ℕ) → ((j : ℕ) → j ≤ k → it j ≡ it' j) → commits r it k ≡ commits r it' k
  unfolding commits
  commits_same k h = book_same k h k
