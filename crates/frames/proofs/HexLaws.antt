-- Bytes and their digits undo each other.
use Rattle.std.proofs.Common.{◌≡◌, ℕ, zero, suc, ◌+◌, ◌*◌, ◌/◌, ◌%◌, ◌<◌, true, false, cond, List, [], ◌∷◌, length, get_or, drop, Some, None, sym, refl, ap, ◌∙◌, inl, inr, arith}
use Rattle.std.proofs.lemmas.List.{get_or-take, get_or-drop}
use Rattle.std.proofs.lemmas.List.Sums.{prefix_len-drop_yes}
use Rattle.std.proofs.lemmas.Bool.{cases_Bool, cond-true, cond-false}
use Rattle.std.proofs.lemmas.Bool.Decides.{nat_tests}
use Rattle.std.specs.List.{prefix_len}
use Rattle.std.specs.Simd.{first_chunks}
use Rattle.frames.specs.Hex.{hex_digit_of, is_hex_digit, hex_value_of, hex_of, bytes_in, Bytes}

pub digit_is : (v : ℕ) → v < 16 → is_hex_digit (hex_digit_of v) ≡ true
digit_is v h = grind (arith, nat_tests)

pub digit_value : (v : ℕ) → v < 16 → hex_value_of (hex_digit_of v) ≡ v
digit_value v h = grind (arith, nat_tests)

pub value_digit : (c : ℕ) → is_hex_digit c ≡ true → hex_digit_of (hex_value_of c) ≡ c
value_digit c h = grind (arith, nat_tests)

pub value_below : (c : ℕ) → is_hex_digit c ≡ true → hex_value_of c < 16
value_below c h = grind (arith, nat_tests)

-- a character d, which is c, is found to have the value v
pub found_digit : (d c v : ℕ) → d ≡ c → Some v ≡ cond (is_hex_digit d) (Some (hex_value_of d)) None → (is_hex_digit c ≡ true) × (v ≡ hex_value_of c)
found_digit d c v e h =
    elim (cases_Bool (is_hex_digit d)) [
      | inl p ↦ let a = cond-true (is_hex_digit d) (Some (hex_value_of d)) None p in (ap is_hex_digit (sym e) ∙ p, cc)
      | inr p ↦ absurd (let a = cond-false (is_hex_digit d) (Some (hex_value_of d)) None p in let z : ◌≡◌ {A = ℕ} 0 1 = cc in omega arith)
    ]

-- and to have none
pub found_none : (d c : ℕ) → d ≡ c → None ≡ cond (is_hex_digit d) (Some (hex_value_of d)) None → is_hex_digit c ≡ false
found_none d c e h =
    elim (cases_Bool (is_hex_digit d)) [
      | inl p ↦ absurd (let a = cond-true (is_hex_digit d) (Some (hex_value_of d)) None p in let z : ◌≡◌ {A = ℕ} 0 1 = cc in omega arith)
      | inr p ↦ ap is_hex_digit (sym e) ∙ p
    ]

pub length-hex_of : (bs : List ℕ) → length (hex_of bs) ≡ 2 * length bs
length-hex_of [] = refl
length-hex_of (b ∷ bs) = omega (arith, length-hex_of bs)

pub bytes_in-hex_of : (bs : List ℕ) → Bytes bs → bytes_in (hex_of bs) ≡ bs
bytes_in-hex_of [] h = refl
bytes_in-hex_of (b ∷ bs) h =
    let p = h.0 in
    let e : 16 * hex_value_of (hex_digit_of (b / 16)) + hex_value_of (hex_digit_of (b % 16)) ≡ b = omega (arith, digit_value (b / 16) (omega arith), digit_value (b % 16) (omega arith)) in
    let f = bytes_in-hex_of bs h.1 in cc

-- the digits of bytes are digits throughout
pub digits-hex_of : (bs : List ℕ) → Bytes bs → prefix_len is_hex_digit (hex_of bs) ≡ length (hex_of bs)
digits-hex_of [] h = refl
digits-hex_of (b ∷ bs) h =
    let p = h.0 in
    let low : prefix_len is_hex_digit (hex_digit_of (b % 16) ∷ hex_of bs) ≡ 1 + prefix_len is_hex_digit (hex_of bs) = cond-true _ _ _ (digit_is (b % 16) (omega arith)) in
    let high : prefix_len is_hex_digit (hex_of (b ∷ bs)) ≡ 1 + prefix_len is_hex_digit (hex_digit_of (b % 16) ∷ hex_of bs) = cond-true _ _ _ (digit_is (b / 16) (omega arith)) in
    omega (arith, digits-hex_of bs h.1)

-- digits throughout: the first is one, and so are the others
digits_first : (c : ℕ) (cs : List ℕ) → prefix_len is_hex_digit (c ∷ cs) ≡ length (c ∷ cs) → (is_hex_digit c ≡ true) × (prefix_len is_hex_digit cs ≡ length cs)
digits_first c cs h =
    elim (cases_Bool (is_hex_digit c)) [
      | inl e ↦ (e, omega (arith, cond-true (is_hex_digit c) (1 + prefix_len is_hex_digit cs) 0 e))
      | inr e ↦ absurd (omega (arith, cond-false (is_hex_digit c) (1 + prefix_len is_hex_digit cs) 0 e))
    ]

pub hex_of-bytes_in : (cs : List ℕ) → length cs % 2 ≡ 0 → prefix_len is_hex_digit cs ≡ length cs → (hex_of (bytes_in cs) ≡ cs) × Bytes (bytes_in cs)
hex_of-bytes_in [] e h = (refl, tt)
hex_of-bytes_in (c ∷ []) e h = absurd (omega arith)
hex_of-bytes_in (c ∷ d ∷ cs) e h =
    let (p, q) = digits_first c (d ∷ cs) h in
    let (r, s) = digits_first d cs q in
    let (t, u) = hex_of-bytes_in cs (omega arith) s in
    let v = value_below c p in
    let w = value_below d r in
    let x : (16 * hex_value_of c + hex_value_of d) / 16 ≡ hex_value_of c = omega arith in
    let y : (16 * hex_value_of c + hex_value_of d) % 16 ≡ hex_value_of d = omega arith in
    let high = ap hex_digit_of x ∙ value_digit c p in
    let low = ap hex_digit_of y ∙ value_digit d r in
    (cc, (omega arith, u))

pub length-bytes_in : (cs : List ℕ) → length (bytes_in cs) ≡ length cs / 2
length-bytes_in [] = refl
length-bytes_in (c ∷ []) = refl
length-bytes_in (c ∷ d ∷ cs) = omega (arith, length-bytes_in cs)

pub get_or-bytes_in : (i : ℕ) (cs : List ℕ) → i < length cs / 2 → get_or (bytes_in cs) i 0 ≡ 16 * hex_value_of (get_or cs (2 * i) 0) + hex_value_of (get_or cs (2 * i + 1) 0)
get_or-bytes_in i [] h = absurd (omega arith)
get_or-bytes_in i (c ∷ []) h = absurd (omega arith)
get_or-bytes_in zero (c ∷ d ∷ cs) h = refl
get_or-bytes_in (suc i) (c ∷ d ∷ cs) h =
    let e : 2 * suc i ≡ suc (suc (2 * i)) = omega arith in
    let f : suc (suc (2 * i)) + 1 ≡ suc (suc (2 * i + 1)) = omega arith in
    rw (e, f) (get_or-bytes_in i cs (omega arith))

-- two digits more are known to lead
pub digits_more : (line : List ℕ) (i : ℕ) → 2 * i + 1 < length line → is_hex_digit (get_or line (2 * i) 0) ≡ true → is_hex_digit (get_or line (2 * i + 1) 0) ≡ true → prefix_len is_hex_digit (drop (2 * i) line) ≡ 2 + prefix_len is_hex_digit (drop (2 * (i + 1)) line)
digits_more line i h p q =
    let a = prefix_len-drop_yes is_hex_digit line (2 * i) 0 (omega arith) p in
    let b = prefix_len-drop_yes is_hex_digit line (2 * i + 1) 0 h q in
    let e : 2 * i + 1 + 1 ≡ 2 * (i + 1) = omega arith in
    let f = ap (λ (n : ℕ). prefix_len is_hex_digit (drop n line)) e in
    omega arith

-- item j of the chunk at place i
chunk_item : (n k i j : ℕ) (xs : List ℕ) → i < k → j < n → get_or (get_or (first_chunks n k xs) i []) j 0 ≡ get_or xs (n * i + j) 0
chunk_item n zero i j xs h l = absurd (omega arith)
chunk_item n (suc k) zero j xs h l =
    let e : j ≡ n * 0 + j = omega arith in
    get_or-take n xs j 0 l ∙ ap (λ (m : ℕ). get_or xs m 0) e
chunk_item n (suc k) (suc i) j xs h l =
    let e : n + (n * i + j) ≡ n * suc i + j = omega arith in
    chunk_item n k i j (drop n xs) (omega arith) l ∙ (get_or-drop n xs (n * i + j) 0 ∙ ap (λ (m : ℕ). get_or xs m 0) e)

pub chunk_at : (n k i j m : ℕ) (xs : List ℕ) (chunks : List (List ℕ)) → chunks ≡ first_chunks n k xs → i < k → j < n → n * i + j ≡ m → get_or (get_or chunks i []) j 0 ≡ get_or xs m 0
chunk_at n k i j m xs chunks e h l f =
    ap (λ (cs : List (List ℕ)). get_or (get_or cs i []) j 0) e ∙ (chunk_item n k i j xs h l ∙ ap (λ (m : ℕ). get_or xs m 0) f)
