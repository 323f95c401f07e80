use Rattle.std.proofs.Common.{length, ap, ◌∙◌, arith}
use Rattle.frames.specs.Contents.{Content, line_of}
use Rattle.frames.specs.Held.{content_of}
use Rattle.frames.proofs.WriteLaws.{length-append_line, length-listed_line}
use Rattle.frames.proofs.writer.put_frame.Goals as goal

pub put_accesses-requires : goal.put_accesses-requires
put_accesses-requires c =
    let n = ap (λ (f : Content). length (line_of f)) (ap content_of c.in-Append.is) ∙ length-append_line c.in-Append.snapshot c.in-Append.accesses.now in
    omega (arith, c.requires.room)

pub put-requires-in-SetUpListed : goal.put-requires-in-SetUpListed
put-requires-in-SetUpListed c =
    let n = ap (λ (f : Content). length (line_of f)) (ap content_of c.in-SetUpListed.is) ∙ length-listed_line c.in-SetUpListed.rule c.in-SetUpListed.n c.in-SetUpListed.table.now in
    omega (arith, c.requires.room)

pub returns-in-Append-clause-value : goal.returns-in-Append-clause-value
returns-in-Append-clause-value c =
    let n = ap (λ (f : Content). length (line_of f)) (ap content_of c.in-Append.is) ∙ length-append_line c.in-Append.snapshot c.in-Append.accesses.now in
    omega arith

pub returns-in-SetUpListed-clause-value : goal.returns-in-SetUpListed-clause-value
returns-in-SetUpListed-clause-value c =
    let n = ap (λ (f : Content). length (line_of f)) (ap content_of c.in-SetUpListed.is) ∙ length-listed_line c.in-SetUpListed.rule c.in-SetUpListed.n c.in-SetUpListed.table.now in
    omega arith
