-- A table of rows of four, read and written as the list of its rows joined.
use Rattle.std.proofs.Common.{◌≡◌, ℕ, zero, suc, ◌+◌, ◌-◌, ◌*◌, ◌<◌, List, [], ◌∷◌, ◌++◌, length, get_or, set, replicate, refl, sym, ap, ◌∙◌, arith}
use Rattle.std.specs.List.{All, concat}
use Rattle.std.proofs.lemmas.List.{get_or_append_left, get_or-append_right, set-append_left, set-append_right}

abbrev pub Fours : List (List ℕ) → Type 0
Fours rows = All (λ row. length row ≡ 4) rows

first : (row : List ℕ) (rows : List (List ℕ)) → Fours (row ∷ rows) → length row ≡ 4
first row rows long = long 0 row (omega arith)

rest : (row : List ℕ) (rows : List (List ℕ)) → Fours (row ∷ rows) → Fours rows
rest row rows long = λ k d l. long (suc k) d (omega arith)

pub at_joined : (rows : List (List ℕ)) → Fours rows → (i j : ℕ) → i < length rows → j < 4 → get_or (get_or rows i []) j 0 ≡ get_or (concat rows) (4 * i + j) 0
at_joined [] long i j l m = absurd (omega arith)
at_joined (row ∷ rows) long zero j l m =
    let e : j ≡ 4 * 0 + j = omega arith in
    sym (get_or_append_left row (concat rows) 0 j (omega (arith, first row rows long))) ∙ ap (λ k. get_or (row ++ concat rows) k 0) e
at_joined (row ∷ rows) long (suc i) j l m =
    let e : 4 * i + j ≡ 4 * suc i + j - 4 = omega arith in
    at_joined rows (rest row rows long) i j (omega arith) m
    ∙ ap (λ k. get_or (concat rows) k 0) e
    ∙ sym (get_or-append_right row (concat rows) 4 (4 * suc i + j) 0 (first row rows long) (omega arith))

pub set_joined : (rows : List (List ℕ)) → Fours rows → (i j y : ℕ) → i < length rows → j < 4 → concat (set rows i (set (get_or rows i []) j y)) ≡ set (concat rows) (4 * i + j) y
set_joined [] long i j y l m = absurd (omega arith)
set_joined (row ∷ rows) long zero j y l m =
    let e : j ≡ 4 * 0 + j = omega arith in
    sym (set-append_left row (concat rows) j y (omega (arith, first row rows long))) ∙ ap (λ k. set (row ++ concat rows) k y) e
set_joined (row ∷ rows) long (suc i) j y l m =
    let e : 4 * i + j ≡ 4 * suc i + j - 4 = omega arith in
    ap (λ xs. row ++ xs) (set_joined rows (rest row rows long) i j y (omega arith) m ∙ ap (λ k. set (concat rows) k y) e)
    ∙ sym (set-append_right row (concat rows) 4 (4 * suc i + j) y (first row rows long) (omega arith))

-- nothing but zeros
pub joined_zeros : (n : ℕ) → concat (replicate n (0 ∷ 0 ∷ 0 ∷ 0 ∷ [])) ≡ replicate (4 * n) 0
joined_zeros zero = refl
joined_zeros (suc n) =
    let e : suc (suc (suc (suc (4 * n)))) ≡ 4 * suc n = omega arith in
    ap (λ xs. 0 ∷ 0 ∷ 0 ∷ 0 ∷ xs) (joined_zeros n) ∙ ap (λ k. replicate k 0) e
