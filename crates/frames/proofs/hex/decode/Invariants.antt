use Rattle.std.proofs.Common.{◌≡◌, ◌+◌, ◌*◌, length, take, drop}
use Rattle.std.specs.List.{prefix_len}
use Rattle.frames.specs.Hex.{is_hex_digit, bytes_in}
use Rattle.frames.proofs.hex.decode.Given as goal

-- every character so far is a digit, and the row has the bytes so far, as many as a frame may have
abbrev pub invariant-loop-i : goal.invariant-loop-i
invariant-loop-i l =
    (2 * l.i + prefix_len is_hex_digit (drop (2 * l.i) l.line) ≡ prefix_len is_hex_digit l.line)
    × (length l.row ≡ 1027)
    × (take l.i l.row ≡ take l.i (take 1027 (bytes_in l.line)))
