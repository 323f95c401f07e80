use Rattle.std.proofs.Common.{take}
use Rattle.std.specs.Fmt.{IsPlainFormatter, HasWritten}
use Rattle.wording.specs.Words.{more_words}
use Rattle.wording.proofs.access.MoreWordsDisplay.fmt.Given as goal

-- the words of the accesses so far are written
abbrev pub invariant-loop-access : goal.invariant-loop-access
invariant-loop-access g l = IsPlainFormatter l.initial.f → HasWritten g.W.Write.write_str_gives l.initial.f (more_words (take l.access-index l.self.0.now)) l.f
