use Rattle.std.proofs.Common.{◌≡◌, ◌++◌, take, drop}
use Rattle.frames.specs.Hex.{hex_of}
use Rattle.frames.specs.Writing.{over}
use Rattle.frames.proofs.hex.put.Given as goal

-- the digits of the bytes so far stand from the place on
abbrev pub invariant-loop-i : goal.invariant-loop-i
invariant-loop-i l = l.out ≡ take l.at l.initial.out ++ over (hex_of (take l.i l.bytes)) (drop l.at l.initial.out)
