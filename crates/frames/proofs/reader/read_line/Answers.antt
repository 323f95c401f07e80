use Rattle.std.proofs.Common.{◌∙◌, ap}
use Rattle.terms.specs.Refusals.{ok_as}
use Rattle.frames.specs.Held.{content_of}
use Rattle.frames.proofs.ReadLaws.{digits_row, read_as, read_long, read_whole}
use Rattle.frames.proofs.RoundTripLaws.{answer_is_written}
use Rattle.frames.proofs.reader.read_line.Goals as goal

pub returns-then-len-gt-LONGEST_FRAME-clause-answer : goal.returns-then-len-gt-LONGEST_FRAME-clause-answer
returns-then-len-gt-LONGEST_FRAME-clause-answer c =
    let line = c.args.line.now in
    let (bad, row) = digits_row line _ c.in_ok-bytes.ensures in
    let answer = read_as line _ _ _ c.if-line-eq1.false bad row c.in-Some.ensures.value c.in_ok-kind.ensures in
    read_long line _ answer c.if-len-gt-LONGEST_FRAME.true

pub returns : goal.returns
returns c =
    let line = c.args.line.now in
    let (bad, row) = digits_row line _ c.in_ok-bytes.ensures in
    let answer = read_as line _ _ _ c.if-line-eq1.false bad row c.in-Some.ensures.value c.in_ok-kind.ensures in
    let seen = ap (ok_as content_of) c.ok_or.ensures.value ∙ read_whole line _ _ _ answer row c.if-len-gt-LONGEST_FRAME.false c.frame_of_kind.ensures in
    record { answer = seen; written = answer_is_written _ line seen }
