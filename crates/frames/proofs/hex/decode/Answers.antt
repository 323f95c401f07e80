use Rattle.std.proofs.Common.{◌≡◌, ◌+◌, ◌*◌, ◌/◌, length, get_or, take, min, Err, Ok, sym, ap, ◌∙◌, arith}
use Rattle.std.proofs.lemmas.Bool.{cond-false, le-ltb}
use Rattle.std.proofs.lemmas.List.Sums.{prefix_len-drop_yes, prefix_len-drop_no}
use Rattle.std.specs.List.{prefix_len}
use Rattle.frames.specs.declared.fault.LineFault.TheVariants.{NotHexadecimal}
use Rattle.frames.specs.Hex.{is_hex_digit, bytes_in}
use Rattle.frames.proofs.HexLaws.{found_digit, found_none, digits_more, get_or-bytes_in, length-bytes_in, chunk_at}
use Rattle.frames.proofs.ReadLaws.{row_set, row_full, row_whole, refused_at}
use Rattle.frames.proofs.hex.decode.Goals as goal
use Rattle.frames.proofs.hex.decode.Goals.{then-i-lt-LONGEST_FRAME, else-i-lt-LONGEST_FRAME}

pub returns-in_default : goal.returns-in_default
returns-in_default c =
    let line = c.args.line.now in
    let i = c.loop-i.i in
    let high = chunk_at 2 (length line / 2) i 0 (2 * i) line _ c.as_chunks.ensures.front (omega arith) (omega arith) (omega arith) in
    let no = found_none _ _ high (c.in_default.ensures.value) in
    let here = prefix_len-drop_no is_hex_digit line (2 * i) 0 (omega arith) no in
    refused_at line (2 * i) _ (omega (arith, c.loop-i.invariant.0)) (omega arith)

pub returns-in_default-value_of : goal.returns-in_default-value_of
returns-in_default-value_of c =
    let line = c.args.line.now in
    let i = c.loop-i.i in
    let high = chunk_at 2 (length line / 2) i 0 (2 * i) line _ c.as_chunks.ensures.front (omega arith) (omega arith) (omega arith) in
    let low = chunk_at 2 (length line / 2) i 1 (2 * i + 1) line _ c.as_chunks.ensures.front (omega arith) (omega arith) (omega arith) in
    let digit = found_digit _ _ _ high c.in-Some.ensures.value in
    let no = found_none _ _ low c.in_default-value_of.ensures.value in
    let before = prefix_len-drop_yes is_hex_digit line (2 * i) 0 (omega arith) digit.0 in
    let here = prefix_len-drop_no is_hex_digit line (2 * i + 1) 0 (omega arith) no in
    refused_at line (2 * i + 1) _ (omega (arith, c.loop-i.invariant.0)) (omega arith)

pub loop-i-preserved : goal.loop-i-preserved
loop-i-preserved c =
    let line = c.args.line.now in
    let i = c.loop-i.i in
    let high = chunk_at 2 (length line / 2) i 0 (2 * i) line _ c.as_chunks.ensures.front (omega arith) (omega arith) (omega arith) in
    let low = chunk_at 2 (length line / 2) i 1 (2 * i + 1) line _ c.as_chunks.ensures.front (omega arith) (omega arith) (omega arith) in
    let (p, v) = found_digit _ _ _ high c.in-Some.ensures.value in
    let (q, w) = found_digit _ _ _ low c.in-Some-value_of.ensures.value in
    let more = digits_more line i (omega arith) p q in
    let byte : 16 * c.in-Some.high + c.in-Some-value_of.low ≡ get_or (bytes_in line) i 0 = omega (arith, v, w, get_or-bytes_in i line (omega arith)) in
    let (digits, long, sofar) = c.loop-i.invariant in
    let row : (length c.if-i-lt-LONGEST_FRAME.row ≡ 1027) × (take (i + 1) c.if-i-lt-LONGEST_FRAME.row ≡ take (i + 1) (take 1027 (bytes_in line))) =
    elim c.if-i-lt-LONGEST_FRAME.branch [
      | then-i-lt-LONGEST_FRAME w ↦ row_set 1027 (bytes_in line) c.loop-i.row _ i _ long sofar w.if-i-lt-LONGEST_FRAME.true (omega (arith, length-bytes_in line)) (omega (arith, byte)) w.row-is
      | else-i-lt-LONGEST_FRAME w ↦ row_full 1027 (bytes_in line) c.loop-i.row _ i long sofar w.if-i-lt-LONGEST_FRAME.false w.row-is
    ] in
    (omega (arith, digits), row.0, row.1)

pub returns : goal.returns
returns c =
    let line = c.args.line.now in
    let (digits, long, sofar) = c.loop-i.invariant in
    let n : c.min.result ≡ min c.loop-i.i 1027 = omega arith in
    let row = row_whole 1027 (bytes_in line) c.loop-i.row c.loop-i.i c.min.result long sofar (omega (arith, length-bytes_in line)) n in
    ap (λ bs. Ok bs) row ∙ sym (cond-false _ (Err (NotHexadecimal (prefix_len is_hex_digit line))) (Ok (take 1027 (bytes_in line))) (le-ltb (prefix_len is_hex_digit line) (length line) (omega arith)))
