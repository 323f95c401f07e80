-- The way from a line's characters to its bytes.
use Rattle.std.proofs.Common.{◌≡◌, ◌≢◌, ℕ, ◌+◌, ◌/◌, ◌%◌, ◌<◌, ◌≤◌, List, [], ◌∷◌, length, get_or, slice_get, take, set, min, nat_lt, lit<, false, Some, None, Ok, Err, Option, Result, option_map, ok_or, sym, refl, ap, ◌∙◌, arith}
use Rattle.std.proofs.lemmas.List.{get_or-take, length-set, length-take, take_more, take_more_set, take_all, take_min}
use Rattle.std.proofs.lemmas.Bool.{cond-true, cond-false, lt-ltb, ne_eqb}
use Rattle.std.specs.List.{prefix_len}
use Rattle.terms.specs.Refusals.{refuse, ok_as}
use Rattle.frames.specs.declared.fault.LineFault.{LineFault}
use Rattle.frames.specs.declared.fault.LineFault.TheVariants.{NotHexadecimal, Empty, WrongLength}
use Rattle.frames.specs.declared.frame.Frame.{Frame}
use Rattle.frames.specs.declared.kind.Kind.{Kind}
use Rattle.frames.specs.Contents.{Content}
use Rattle.frames.specs.Held.{content_of}
use Rattle.frames.specs.Hex.{is_hex_digit, bytes_in}
use Rattle.frames.specs.Kinds.{kind_from}
use Rattle.frames.specs.Reading.{said_in, frame_with, read_answer}
use Rattle.frames.proofs.HexLaws.{length-bytes_in}
use Rattle.frames.proofs.ContentLaws.{longer_than_any}
use Rattle.frames.proofs.RoundTripLaws.{passed}

-- one more byte is in the row
pub row_set : (most : ℕ) (bs row row' : List ℕ) (i x : ℕ) → length row ≡ most → take i row ≡ take i (take most bs) → i < most → i < length bs → x ≡ get_or bs i 0 → row' ≡ set row i x → (length row' ≡ most) × (take (i + 1) row' ≡ take (i + 1) (take most bs))
row_set most bs row row' i x l inv h k e s =
    let n = length-take most bs in
    let p : i < length (take most bs) = omega arith in
    let g = get_or-take most bs i 0 h in
    let t = take_more (take most bs) i 0 p in
    let u = take_more_set row i x (omega arith) in
    (ap length s ∙ length-set row i x ∙ l, cc)

-- and has no place there, if it is full
pub row_full : (most : ℕ) (bs row row' : List ℕ) (i : ℕ) → length row ≡ most → take i row ≡ take i (take most bs) → most ≤ i → row' ≡ row → (length row' ≡ most) × (take (i + 1) row' ≡ take (i + 1) (take most bs))
row_full most bs row row' i l inv h s =
    let n = length-take most bs in
    let t = take_all i row (omega arith) in
    let u = take_all (i + 1) row (omega arith) in
    let v = take_all i (take most bs) (omega arith) in
    let w = take_all (i + 1) (take most bs) (omega arith) in
    (ap length s ∙ l, cc)

-- the start of the row that has bytes of the line has all that it may have
pub row_whole : (most : ℕ) (bs row : List ℕ) (i n : ℕ) → length row ≡ most → take i row ≡ take i (take most bs) → length bs ≤ i → n ≡ min i most → take n row ≡ take most bs
row_whole most bs row i n l inv h e =
    let t = take_all i (take most bs) (omega (arith, length-take most bs)) in
    let p : n ≡ min i (length row) = omega arith in
    ap (λ (k : ℕ). take k row) p ∙ (take_min i row ∙ (inv ∙ t))

-- the place of the first character that is no digit, which a line is refused with
pub refused_at : {A : Type 0} (line : List ℕ) (n : ℕ) (r : Result A LineFault) → prefix_len is_hex_digit line ≡ n → n < length line → Err (NotHexadecimal n) ≡ refuse (nat_lt (prefix_len is_hex_digit line) (length line)) (NotHexadecimal (prefix_len is_hex_digit line)) r
refused_at line n r e h = sym (cond-true _ _ _ (lt-ltb (prefix_len is_hex_digit line) (length line) (omega arith)) ∙ ap (λ (k : ℕ). Err (NotHexadecimal k)) e)

-- a line that is not refused so is one of digits, whose bytes are in the row
pub digits_row : (line row : List ℕ) → ◌≡◌ {A = Result (List ℕ) LineFault} (Ok row) (refuse (nat_lt (prefix_len is_hex_digit line) (length line)) (NotHexadecimal (prefix_len is_hex_digit line)) (Ok (take 1027 (bytes_in line)))) → (nat_lt (prefix_len is_hex_digit line) (length line) ≡ false) × (row ≡ take 1027 (bytes_in line))
digits_row line row h =
    let (bad, same) = passed (nat_lt (prefix_len is_hex_digit line) (length line)) (NotHexadecimal (prefix_len is_hex_digit line)) (Ok (take 1027 (bytes_in line))) row (sym h) in
    (bad, cc)

-- what is read of a line of digits, by the row of its bytes
pub read_as : (line row : List ℕ) (kind : Kind) (first : ℕ) → length line % 2 ≢ 1 → nat_lt (prefix_len is_hex_digit line) (length line) ≡ false → row ≡ take 1027 (bytes_in line) → Some first ≡ slice_get row 0 → Ok kind ≡ kind_from first → read_answer line ≡ ok_or (said_in kind (bytes_in line)) (WrongLength (length line / 2))
read_as line [] kind first odd bad e f k = absurd (let z : ◌≡◌ {A = ℕ} 0 1 = cc in omega arith)
read_as line (b ∷ bs) kind first odd bad e f k =
    let n = length-bytes_in line in
    let m = ap length e in
    let t = length-take 1027 (bytes_in line) in
    let g : b ≡ get_or (bytes_in line) 0 0 = ap (λ (row : List ℕ). get_or row 0 0) e ∙ get_or-take 1027 (bytes_in line) 0 0 (lit< tt) in
    let p : kind_from (get_or (bytes_in line) 0 0) ≡ Ok kind = cc in
    cond-false _ _ _ (ne_eqb _ _ odd)
    ∙ (cond-false _ _ _ bad
    ∙ (cond-false _ (Err Empty) (frame_with (kind_from (get_or (bytes_in line) 0 0)) (bytes_in line)) (ne_eqb (length (bytes_in line)) 0 (λ z. omega arith))
    ∙ (ap (λ (r : Result Kind LineFault). frame_with r (bytes_in line)) p
    ∙ ap (λ (len : ℕ). ok_or (said_in kind (bytes_in line)) (WrongLength len)) n)))

-- a line that is longer than any
pub read_long : (line : List ℕ) (kind : Kind) → read_answer line ≡ ok_or (said_in kind (bytes_in line)) (WrongLength (length line / 2)) → 1027 < length line / 2 → Err (WrongLength (length line / 2)) ≡ read_answer line
read_long line kind e h = sym (e ∙ ap (λ (o : Option Content). ok_or o (WrongLength (length line / 2))) (longer_than_any kind (bytes_in line) (omega (arith, length-bytes_in line))))

-- and one whose bytes are all in the row
pub read_whole : (line row : List ℕ) (kind : Kind) (o : Option Frame) → read_answer line ≡ ok_or (said_in kind (bytes_in line)) (WrongLength (length line / 2)) → row ≡ take 1027 (bytes_in line) → length line / 2 ≤ 1027 → option_map content_of o ≡ said_in kind row → ok_as content_of (ok_or o (WrongLength (length line / 2))) ≡ read_answer line
read_whole line row kind o e f h s =
    let t = take_all 1027 (bytes_in line) (omega (arith, length-bytes_in line)) in
    let r : row ≡ bytes_in line = f ∙ t in
    seen o ∙ (ap (λ (p : Option Content). ok_or p (WrongLength (length line / 2))) (s ∙ ap (said_in kind) r) ∙ sym e)
  where
    seen : (o : Option Frame) → ok_as content_of (ok_or o (WrongLength (length line / 2))) ≡ ok_or (option_map content_of o) (WrongLength (length line / 2))
    seen None = refl
    seen (Some x) = refl
