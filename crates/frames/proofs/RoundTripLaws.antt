-- Reading and writing undo each other.
use Rattle.std.proofs.Common.{◌≡◌, ℕ, ◌+◌, ◌-◌, ◌%◌, Bool, false, eqb, ltb, List, [], ◌∷◌, length, take, drop, None, Ok, Err, Result, sym, ap, ◌∙◌, inl, inr, arith}
use Rattle.std.proofs.lemmas.List.{append_assoc, take_at}
use Rattle.std.proofs.lemmas.List.Sums.{prefix_len-le-length}
use Rattle.std.proofs.lemmas.Bool.{cases_Bool, cond-true, cond-false, ne_eqb, eqb-false, le-ltb, ltb-false}
use Rattle.std.specs.List.{prefix_len}
use Rattle.terms.specs.Refusals.{refuse}
use Rattle.frames.specs.declared.fault.LineFault.{LineFault}
use Rattle.frames.specs.declared.fault.LineFault.TheVariants.{OddCount, NotHexadecimal}
use Rattle.frames.specs.Hex.{is_hex_digit, hex_of, bytes_in}
use Rattle.frames.specs.Contents.{Content, bytes_of, line_of, no_line_of, FieldsFit, Writable}
use Rattle.frames.specs.Reading.{frame_in, read_answer}
use Rattle.frames.specs.RoundTrips.{ReadIsWritten}
use Rattle.frames.specs.Writing.{over, written}
use Rattle.frames.proofs.HexLaws.{length-hex_of, bytes_in-hex_of, digits-hex_of, hex_of-bytes_in}
use Rattle.frames.proofs.ContentLaws.{bytes-bytes_of, frame_in-bytes_of, bytes_of-frame_in}

-- the line of a frame that has one reads as that frame
written_reads : (f : Content) → Writable f → read_answer (line_of f) ≡ Ok f
written_reads f h =
    let b = bytes-bytes_of f h in
    let n = length-hex_of (bytes_of f) in
    let d = digits-hex_of (bytes_of f) b in
    let even : length (hex_of (bytes_of f)) % 2 ≡ 1 → ⊥ = λ e. omega arith in
    cond-false _ _ _ (ne_eqb _ _ even)
    ∙ (cond-false _ _ _ (le-ltb (prefix_len is_hex_digit (line_of f)) (length (line_of f)) (omega arith))
    ∙ (ap frame_in (bytes_in-hex_of (bytes_of f) b) ∙ frame_in-bytes_of f h))

-- a check that is passed
pub passed : {A E : Type 0} (t : Bool) (e : E) (r : Result A E) (x : A) → refuse t e r ≡ Ok x → (t ≡ false) × (r ≡ Ok x)
passed t e r x h =
    elim (cases_Bool t) [
      | inl p ↦ absurd (let a = cond-true t (Err e) r p in let z : ◌≡◌ {A = ℕ} 0 1 = cc in omega arith)
      | inr p ↦ (p, sym (cond-false t (Err e) r p) ∙ h)
    ]

-- a line that reads is the line of what was read
pub read_is_written : (line : List ℕ) (f : Content) → read_answer line ≡ Ok f → Writable f × (line_of f ≡ line)
read_is_written line f e =
    let (odd, e) = passed (eqb (length line % 2) 1) (OddCount (length line)) _ f e in
    let (bad, e) = passed (ltb (prefix_len is_hex_digit line) (length line)) (NotHexadecimal (prefix_len is_hex_digit line)) _ f e in
    let even = eqb-false (length line % 2) 1 odd in
    let most = ltb-false (prefix_len is_hex_digit line) (length line) bad in
    let (back, bytes) = hex_of-bytes_in line (omega (arith, even)) (omega (arith, prefix_len-le-length is_hex_digit line)) in
    let (fit, same) = bytes_of-frame_in (bytes_in line) f bytes e in
    (fit, ap hex_of same ∙ back)

-- so of the reader's answer
pub answer_is_written : (r : Result Content LineFault) (line : List ℕ) → r ≡ read_answer line → ReadIsWritten r line
answer_is_written (Ok f) line e = read_is_written line f (sym e)
answer_is_written (Err x) line e = tt

-- and of the buffer that the writer leaves
pub buffer_reads : (f : Content) (out out' : List ℕ) (n : ℕ) → no_line_of f ≡ None → FieldsFit f → n ≡ length (line_of f) → out' ≡ over (written f) out → read_answer (take (n + 1 - 1) out') ≡ Ok f
buffer_reads f out out' n held fit e o =
    let k : n + 1 - 1 ≡ n = omega arith in
    let a = append_assoc (line_of f) (10 ∷ []) (drop (length (written f)) out) in
    let t = take_at (line_of f) (10 ∷ drop (length (written f)) out) n (sym e) in
    let q : take (n + 1 - 1) out' ≡ line_of f = cc in
    ap read_answer q ∙ written_reads f (record { held = held; fit = fit })
