use Rattle.std.proofs.Common.{◌≡◌, length, take, drop}
use Rattle.frames.specs.Reading.{accesses_in}
use Rattle.frames.proofs.reader.append_in.Given as goal

-- so many accesses are read
abbrev pub invariant-loop-triple : goal.invariant-loop-triple
invariant-loop-triple l =
    (length l.accesses.items ≡ l.triple-index)
    × (l.accesses.items ≡ take l.triple-index (accesses_in (drop 4 l.bytes)))
