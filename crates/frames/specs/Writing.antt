-- What the writer answers, and what it leaves in the buffer. Assumes nothing.
use Rattle.std.specs.Prelude.{ℕ, List, [], ◌∷◌, ◌++◌, length, drop, Some, None, Ok, Err, Option, Result, nat_lt}
use Rattle.terms.specs.Refusals.{refuse}
use Rattle.frames.specs.declared.fault.WriteFault.{WriteFault}
use Rattle.frames.specs.declared.fault.WriteFault.TheVariants.{ShortBuffer}
use Rattle.frames.specs.Contents.{Content, line_of, no_line_of}

-- a line and its line feed
abbrev pub written : Content → List ℕ
written f = line_of f ++ 10 ∷ []

-- xs in place of the first of ys
abbrev pub over : List ℕ → List ℕ → List ℕ
over xs ys = xs ++ drop (length xs) ys

abbrev pub unless : {A : Type 0} → Option WriteFault → Result A WriteFault → Result A WriteFault
unless (Some e) r = Err e
unless None r = r

-- into a buffer of this size: the length of what is written, or why nothing is
abbrev pub write_answer : Content → ℕ → Result ℕ WriteFault
write_answer f size = unless (no_line_of f) (refuse (nat_lt size (length (written f))) (ShortBuffer (length (written f))) (Ok (length (written f))))

-- the buffer after that answer: its start holds the line and its line feed, or it is as it was
abbrev pub buffer_after : Result ℕ WriteFault → Content → List ℕ → List ℕ
buffer_after (Ok n) f out = over (written f) out
buffer_after (Err e) f out = out
