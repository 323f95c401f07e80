-- Reading and writing undo each other. Assumes nothing.
use Rattle.std.specs.Prelude.{◌≡◌, ℕ, ◌-◌, List, take, Ok, Err, Result}
use Rattle.frames.specs.declared.fault.LineFault.{LineFault}
use Rattle.frames.specs.declared.fault.WriteFault.{WriteFault}
use Rattle.frames.specs.Contents.{Content, line_of, Writable}
use Rattle.frames.specs.Reading.{read_answer}

-- a line that reads is the very line that the writer makes of what was read; so no two lines read as one frame
abbrev pub ReadIsWritten : Result Content LineFault → List ℕ → Type 0
ReadIsWritten (Ok f) line = Writable f × (line_of f ≡ line)
ReadIsWritten (Err e) line = Unit {0}

-- what the writer left before its line feed reads as the frame
abbrev pub WrittenReads : Result ℕ WriteFault → Content → List ℕ → Type 0
WrittenReads (Ok n) f out = read_answer (take (n - 1) out) ≡ Ok f
WrittenReads (Err e) f out = Unit {0}
