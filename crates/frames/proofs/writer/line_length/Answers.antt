use Rattle.std.proofs.Common.{length, sym, ap, ◌∙◌}
use Rattle.frames.specs.Contents.{Content, line_of}
use Rattle.frames.specs.Held.{content_of}
use Rattle.frames.proofs.WriteLaws.{length-append_line, length-listed_line}
use Rattle.frames.proofs.writer.line_length.Goals as goal

pub returns-in-Append-clause-value : goal.returns-in-Append-clause-value
returns-in-Append-clause-value c = sym (ap (λ (f : Content). length (line_of f)) (ap content_of c.in-Append.is) ∙ length-append_line c.in-Append.snapshot c.in-Append.accesses.now)

pub returns-in-SetUpListed-clause-value : goal.returns-in-SetUpListed-clause-value
returns-in-SetUpListed-clause-value c = sym (ap (λ (f : Content). length (line_of f)) (ap content_of c.in-SetUpListed.is) ∙ length-listed_line c.in-SetUpListed.rule c.in-SetUpListed.n c.in-SetUpListed.table.now)
