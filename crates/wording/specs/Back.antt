-- Whether a line is the one that a frame is written as. Assumes nothing.
use Rattle.std.specs.Prelude.{ℕ, Bool, not, ◌&&◌, List, is_some}
use Rattle.std.specs.Str.{bytes_eq}
use Rattle.frames.specs.Contents.{Content, line_of, no_line_of}

-- the frame has a line, and it is this one
abbrev pub is_line_from : Content → List ℕ → Bool
is_line_from f line = not (is_some (no_line_of f)) && bytes_eq (line_of f) line
