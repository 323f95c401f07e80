use Rattle.std.proofs.Common.{ℕ, List, [], set, ap, ◌∙◌, arith}
use Rattle.frames.specs.Contents.{line_of, no_line_of}
use Rattle.frames.specs.Held.{content_of}
use Rattle.frames.proofs.RoundTripLaws.{buffer_reads}
use Rattle.frames.proofs.PutLaws.{over_put}
use Rattle.frames.proofs.WriteLaws.{has_line_is}
use Rattle.frames.proofs.writer.write_line.Goals as goal

pub returns-clause-buffer : goal.returns-clause-buffer
returns-clause-buffer c =
    let f = over_put [] (line_of (content_of c.args.frame)) c.args.out.now c.put_frame-end.result 10 (omega (arith, c.put_frame-end.ensures.value)) (omega (arith, c.line_length-needed.ensures.value)) in
    ap (λ (cs : List ℕ). set cs c.put_frame-end.result 10) c.put_frame-end.ensures.after ∙ f

pub returns-clause-reads : goal.returns-clause-reads
returns-clause-reads c =
    let held = has_line_is (no_line_of (content_of c.args.frame)) _ c.in_ok-has_line.ensures in
    buffer_reads (content_of c.args.frame) c.args.out.now _ c.line_length-needed.result held c.put_frame-end.ensures.fit c.line_length-needed.ensures.value (returns-clause-buffer c)
