use Rattle.std.proofs.Common.{◌≡◌}
use Rattle.frames.specs.Held.{lines_left}
use Rattle.logview.specs.Summaries.{summary, with_lines}
use Rattle.logview.proofs.tell_lines.Given as goal

-- what is counted so far, with the lines that are left, is the whole
abbrev pub invariant-loop-line : goal.invariant-loop-line
invariant-loop-line g l = with_lines l.seen (lines_left l.line-iterator) ≡ summary l.log
