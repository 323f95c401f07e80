-- Accesses that are read one after another.
use Rattle.std.proofs.Common.{◌≡◌, ℕ, zero, suc, ◌+◌, ◌-◌, ◌*◌, ◌/◌, ◌<◌, ◌≤◌, List, [], ◌∷◌, ◌++◌, length, get_or, take, drop, refl, ap, ◌∙◌, arith}
use Rattle.std.proofs.lemmas.List.{length-drop, take_all, take_rest, take_more}
use Rattle.std.specs.Simd.{first_chunks}
use Rattle.terms.specs.declared.access.Access.{Access}
use Rattle.terms.specs.Accesses.{access}
use Rattle.frames.specs.Reading.{accesses_in}
use Rattle.frames.proofs.HexLaws.{chunk_at}

pub length-accesses_in : (bs : List ℕ) → length (accesses_in bs) ≡ length bs / 3
length-accesses_in [] = refl
length-accesses_in (m ∷ []) = refl
length-accesses_in (m ∷ h ∷ []) = refl
length-accesses_in (m ∷ h ∷ l ∷ bs) = omega (arith, length-accesses_in bs)

get_or-accesses_in : (i : ℕ) (bs : List ℕ) (d : Access) → i < length bs / 3 → get_or (accesses_in bs) i d ≡ access (get_or bs (3 * i) 0) (256 * get_or bs (3 * i + 1) 0 + get_or bs (3 * i + 2) 0)
get_or-accesses_in i [] d h = absurd (omega arith)
get_or-accesses_in i (m ∷ []) d h = absurd (omega arith)
get_or-accesses_in i (m ∷ k ∷ []) d h = absurd (omega arith)
get_or-accesses_in zero (m ∷ k ∷ l ∷ bs) d h = refl
get_or-accesses_in (suc i) (m ∷ k ∷ l ∷ bs) d h =
    let e : 3 * suc i ≡ suc (suc (suc (3 * i))) = omega arith in
    let f : suc (suc (suc (3 * i))) + 1 ≡ suc (suc (suc (3 * i + 1))) = omega arith in
    let g : suc (suc (suc (3 * i))) + 2 ≡ suc (suc (suc (3 * i + 2))) = omega arith in
    rw (e, f, g) (get_or-accesses_in i bs d (omega arith))

-- one more access is read
pub row_more : (bs : List ℕ) (triples : List (List ℕ)) (i k : ℕ) (row : List Access) (a d : Access) → triples ≡ first_chunks 3 k (take (length bs - 4) (drop 4 bs)) → i < k → 4 + 3 * k ≤ length bs → a ≡ access (get_or (get_or triples i []) 0 0) (256 * get_or (get_or triples i []) 1 0 + get_or (get_or triples i []) 2 0) → row ≡ take i (accesses_in (drop 4 bs)) → row ++ a ∷ [] ≡ take (i + 1) (accesses_in (drop 4 bs))
row_more bs triples i k row a d e l m f inv =
    let t : triples ≡ first_chunks 3 k (drop 4 bs) = e ∙ ap (first_chunks 3 k) (take_rest bs 4) in
    let len = length-drop 4 bs in
    let p = chunk_at 3 k i 0 (3 * i) (drop 4 bs) triples t l (omega arith) (omega arith) in
    let q = chunk_at 3 k i 1 (3 * i + 1) (drop 4 bs) triples t l (omega arith) (omega arith) in
    let r = chunk_at 3 k i 2 (3 * i + 2) (drop 4 bs) triples t l (omega arith) (omega arith) in
    let g = get_or-accesses_in i (drop 4 bs) d (omega arith) in
    let u = take_more (accesses_in (drop 4 bs)) i d (omega (arith, length-accesses_in (drop 4 bs))) in
    cc

-- no byte is left
pub row_all : (bs : List ℕ) (i : ℕ) (row : List Access) → length bs ≤ 4 + 3 * i → row ≡ take i (accesses_in (drop 4 bs)) → row ≡ accesses_in (drop 4 bs)
row_all bs i row h inv = inv ∙ take_all i (accesses_in (drop 4 bs)) (omega (arith, length-accesses_in (drop 4 bs), length-drop 4 bs))
