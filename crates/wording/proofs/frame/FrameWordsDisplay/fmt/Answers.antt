use Rattle.std.proofs.Common.{sym, ap}
use Rattle.std.proofs.Output.{has_written_of_eq}
use Rattle.frames.specs.declared.frame.Frame.{Frame}
use Rattle.frames.specs.Held.{content_of}
use Rattle.wording.specs.Words.{frame_words}
use Rattle.wording.proofs.frame.FrameWordsDisplay.fmt.Goals as goal

pub returns-in-SetUpListed-clause-writes : goal.returns-in-SetUpListed-clause-writes
returns-in-SetUpListed-clause-writes g c = λ plain ok. has_written_of_eq g.W.Write.write_str_gives c.args.f.now _ _ _ (sym (ap (λ (x : Frame). frame_words (content_of x)) c.in-SetUpListed.is)) (c.write-in-SetUpListed.ensures.writes plain ok)
