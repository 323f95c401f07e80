-- Characters that are written over the start of a buffer, one after another.
use Rattle.std.proofs.Common.{◌≡◌, ℕ, ◌+◌, ◌*◌, ◌/◌, ◌%◌, ◌<◌, ◌≤◌, List, [], ◌∷◌, ◌++◌, length, get_or, take, drop, set, sym, refl, ap, ◌∙◌, arith}
use Rattle.std.proofs.lemmas.List.{append_assoc, length-append, length_push, length-take-le, length-drop, drop_more, drop-drop, drop_at, take_more, take_at, set_at}
use Rattle.frames.specs.Hex.{hex_digit_of, hex_of}
use Rattle.frames.specs.Writing.{over}
use Rattle.frames.proofs.HexLaws.{length-hex_of}

-- one more character
pub over_put : (p xs r : List ℕ) (n a : ℕ) → length p + length xs ≡ n → length xs < length r → set (p ++ over xs r) n a ≡ p ++ over (xs ++ a ∷ []) r
over_put p xs r n a e h =
    let q : length (p ++ xs) ≡ n = omega (arith, length-append p xs) in
    ap (λ (t : List ℕ). set (p ++ (xs ++ t)) n a) (drop_more r (length xs) 0 h)
    ∙ (ap (λ (t : List ℕ). set t n a) (sym (append_assoc p xs (get_or r (length xs) 0 ∷ drop (length xs + 1) r)))
    ∙ (set_at (p ++ xs) (get_or r (length xs) 0) (drop (length xs + 1) r) a n q ∙ simp (append_assoc, length_push)))

-- more characters after those that are written
pub over_more : (p xs r ys : List ℕ) (n : ℕ) → length p + length xs ≡ n → take n (p ++ over xs r) ++ over ys (drop n (p ++ over xs r)) ≡ p ++ over (xs ++ ys) r
over_more p xs r ys n e =
    let q : length (p ++ xs) ≡ n = omega (arith, length-append p xs) in
    let a = append_assoc p xs (drop (length xs) r) in
    let t = take_at (p ++ xs) (drop (length xs) r) n q in
    let d = drop_at (p ++ xs) (drop (length xs) r) n q in
    let dd = drop-drop (length ys) (length xs) r in
    let l = length-append xs ys in
    let f = append_assoc p xs (ys ++ drop (length (xs ++ ys)) r) in
    let g = append_assoc xs ys (drop (length (xs ++ ys)) r) in
    cc

pub hex_of-append : (bs cs : List ℕ) → hex_of (bs ++ cs) ≡ hex_of bs ++ hex_of cs
hex_of-append [] cs = refl
hex_of-append (b ∷ bs) cs = ap (λ (t : List ℕ). hex_digit_of (b / 16) ∷ hex_digit_of (b % 16) ∷ t) (hex_of-append bs cs)

-- the two digits of one more byte
pub put_more : (o : List ℕ) (at : ℕ) (bs : List ℕ) (i : ℕ) (w pair : List ℕ) → i < length bs → at + 2 * length bs ≤ length o → w ≡ take at o ++ over (hex_of (take i bs)) (drop at o) → pair ≡ hex_of (get_or bs i 0 ∷ []) → set (set w (at + 2 * i) (get_or pair 0 0)) (at + 2 * i + 1) (get_or pair 1 0) ≡ take at o ++ over (hex_of (take (i + 1) bs)) (drop at o)
put_more o at bs i w pair h fits e f =
    let a = get_or pair 0 0 in
    let b = get_or pair 1 0 in
    let xs = hex_of (take i bs) in
    let n : length xs ≡ 2 * i = omega (arith, length-hex_of (take i bs), length-take-le i bs (omega arith)) in
    let m : length (take at o) ≡ at = length-take-le at o (omega arith) in
    let d = length-drop at o in
    let u = over_put (take at o) xs (drop at o) (at + 2 * i) a (omega arith) (omega arith) in
    let k = length_push xs a in
    let v = over_put (take at o) (xs ++ a ∷ []) (drop at o) (at + 2 * i + 1) b (omega arith) (omega arith) in
    let p = take_more bs i 0 h in
    let q = hex_of-append (take i bs) (get_or bs i 0 ∷ []) in
    let r = append_assoc xs (a ∷ []) (b ∷ []) in
    let g : a ∷ b ∷ [] ≡ hex_of (get_or bs i 0 ∷ []) = ap (λ (p : List ℕ). get_or p 0 0 ∷ get_or p 1 0 ∷ []) f in
    cc
