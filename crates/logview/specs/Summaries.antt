-- What is counted of a log. Assumes nothing.
use Rattle.std.specs.Prelude.{ℕ, cond, List, [], ◌∷◌, replicate, is_ok}
use Rattle.frames.specs.Lines.{lines_of}
use Rattle.frames.specs.Reading.{read_answer}
use Rattle.wording.specs.Kinds.{kind_in, more, counted}

pub record Summary : Type 0 where
  -- how many lines there are, and how many of each kind
  pub lines : ℕ
  pub counts : List ℕ
  -- how many read, and so are written back as they were
  pub back : ℕ

abbrev pub none : Summary
none = record { lines = 0; counts = replicate 9 0; back = 0 }

abbrev pub with_line : Summary → List ℕ → Summary
with_line s line = record {
  lines = more s.lines;
  counts = counted s.counts (kind_in (read_answer line));
  back = cond (is_ok (read_answer line)) (more s.back) s.back;
}

abbrev pub with_lines : Summary → List (List ℕ) → Summary
with_lines s [] = s
with_lines s (line ∷ rest) = with_lines (with_line s line) rest

abbrev pub summary : List ℕ → Summary
summary log = with_lines none (lines_of log)
