use Rattle.std.proofs.Common.{◌≡◌, ◌+◌, ◌*◌, ◌++◌, take, drop}
use Rattle.frames.specs.Hex.{hex_of}
use Rattle.frames.specs.Contents.{access_bytes, AccessesFit}
use Rattle.frames.specs.Writing.{over}
use Rattle.frames.proofs.writer.put_accesses.Given as goal

-- the accesses so far stand from the place on, and are within their widths
abbrev pub invariant-loop-access : goal.invariant-loop-access
invariant-loop-access l =
    (l.end ≡ l.at + 6 * l.access-index)
    × (l.out ≡ take l.at l.initial.out ++ over (hex_of (access_bytes (take l.access-index l.accesses))) (drop l.at l.initial.out))
    × AccessesFit (take l.access-index l.accesses)
