-- Laws of what goes round a row, all by places.
use Rattle.std.proofs.Common.{◌≡◌, ℕ, ◌+◌, ◌-◌, ◌%◌, ◌<◌, ◌≤◌, List, [], ◌∷◌, ◌++◌, length, get_or, drop, set, sym, refl, ap, ◌∙◌, ⊎_elim, arith, length-append, length-drop, length-set, length-take}
use Rattle.std.proofs.lemmas.List.{get_or-take, get_or-drop, get_or_append_left, get_or-append_right, get_or-set_same, get_or-set_other, length_push, get_or_push, same_lists, nil_from_length}
use Rattle.std.proofs.lemmas.Bool.{cases_lt, cases_eq}
use Rattle.rings.specs.Rings.{around}

module _ {E : Type 0} (row : List E) (size : length row ≡ 16) where
  pub around-length : (first len : ℕ) → first < 16 → len ≤ 16 → length (around row first len) ≡ len
  unfolding around
  around-length first len f l = simp (length-take, length-drop, length-append) (omega arith)

  pub around_at : (first len k : ℕ) (d : E) → first < 16 → len ≤ 16 → k < len → get_or (around row first len) k d ≡ get_or row ((first + k) % 16) d
  unfolding around
  around_at first len k d f l h =
      get_or-take len (drop first (row ++ row)) k d h ∙ get_or-drop first (row ++ row) k d
      ∙ ⊎_elim
      (λ low. get_or_append_left row row d (first + k) (omega arith) ∙ ap (λ i. get_or row i d) (omega arith))
      (λ high. get_or-append_right row row 16 (first + k) d size high ∙ ap (λ i. get_or row i d) (omega arith))
      (cases_lt (first + k) 16)

  pub around_none : (first : ℕ) → first < 16 → around row first 0 ≡ []
  around_none first f = nil_from_length _ (around-length first 0 f (omega arith))

  pub around_tail : (first len : ℕ) → first < 16 → len ≤ 16 → 0 < len → around row ((first + 1) % 16) (len - 1) ≡ drop 1 (around row first len)
  around_tail first len f l some =
      let f' : (first + 1) % 16 < 16 = omega arith in
      let l' : len - 1 ≤ 16 = omega arith in
      let long = around-length first len f l in
      let long' = around-length ((first + 1) % 16) (len - 1) f' l' in
      same_lists _ _ (simp length-drop (omega arith)) (λ k d h.
      around_at ((first + 1) % 16) (len - 1) k d f' l' (omega arith)
      ∙ ap (λ i. get_or row i d) (omega arith)
      ∙ sym (around_at first len (1 + k) d f l (omega arith))
      ∙ sym (get_or-drop 1 (around row first len) k d))

  pub around_head : (first len : ℕ) (d : E) → first < 16 → len ≤ 16 → 0 < len → around row first len ≡ get_or row first d ∷ drop 1 (around row first len)
  around_head first len d f l some =
      headed (around row first len) d (omega (arith, around-length first len f l))
      ∙ ap (λ e. e ∷ drop 1 (around row first len)) (around_at first len 0 d f l some ∙ ap (λ i. get_or row i d) (omega arith))
    where
      headed : (xs : List E) (d : E) → 0 < length xs → xs ≡ get_or xs 0 d ∷ drop 1 xs
      headed [] d h = absurd (omega arith)
      headed (x ∷ xs) d h = refl

pub around_push : {E : Type 0} (row : List E) (size : length row ≡ 16) (first len : ℕ) (e : E) → first < 16 → len < 16 → around (set row ((first + len) % 16) e) first (len + 1) ≡ around row first len ++ e ∷ []
around_push row size first len e f l =
    let at : ℕ = (first + len) % 16 in
    let size' : length (set row ((first + len) % 16) e) ≡ 16 = length-set row ((first + len) % 16) e ∙ size in
    let l' : len + 1 ≤ 16 = omega arith in
    let l'' : len ≤ 16 = omega arith in
    let long = around-length row size first len f l'' in
    let long' = around-length (set row ((first + len) % 16) e) size' first (len + 1) f l' in
    same_lists _ _ (long' ∙ sym (length_push (around row first len) e ∙ ap (λ n. n + 1) long)) (λ k d h.
    around_at (set row ((first + len) % 16) e) size' first (len + 1) k d f l' (omega arith)
    ∙ ⊎_elim
    (λ here.
    ap (λ i. get_or (set row ((first + len) % 16) e) ((first + i) % 16) d) here
    ∙ get_or-set_same row ((first + len) % 16) e d (omega arith)
    ∙ sym (get_or_push (around row first len) e d k (long ∙ sym here)))
    (λ other.
    get_or-set_other row ((first + len) % 16) ((first + k) % 16) e d (λ same. other (omega arith))
    ∙ sym (around_at row size first len k d f l'' (omega arith))
    ∙ sym (get_or_append_left (around row first len) (e ∷ []) d k (omega arith)))
    (cases_eq k len))
