-- What a frame of the code says, and which lines are left of an input. Assumes nothing.
use Rattle.std.specs.Prelude.{ℕ, List}
use Rattle.frames.specs.declared.frame.Frame.{Frame}
use Rattle.frames.specs.declared.frame.Frame.TheVariants.{Append, Assign, BeginPark, ResumeFinish, Verdict, Tally, SetUpResidue, SetUpListed}
use Rattle.frames.specs.declared.lines.Lines.{Lines}
use Rattle.frames.specs.Contents.{Content}
use Rattle.frames.specs.Contents.Content.{append, assign, begin_park, resume_finish, verdict, tally, set_up_residue, set_up_listed}
use Rattle.frames.specs.Lines.{lines_of}

abbrev pub content_of : Frame → Content
content_of (Append snapshot accesses) = append snapshot accesses.now
content_of Assign = assign
content_of (BeginPark worker) = begin_park worker
content_of (ResumeFinish worker) = resume_finish worker
content_of (Verdict number) = verdict number
content_of Tally = tally
content_of (SetUpResidue rule n) = set_up_residue rule n
content_of (SetUpListed rule n table) = set_up_listed rule n table.now

abbrev pub lines_left : Lines → List (List ℕ)
lines_left lines = lines_of lines.rest.now
