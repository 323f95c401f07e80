-- The lines of an input. Assumes nothing.
use Rattle.std.specs.Prelude.{ℕ, Bool, cond, not, List, [], ◌∷◌, ◌==◌}
use Rattle.std.specs.List.{prefix_len}

abbrev pub not_feed : ℕ → Bool
not_feed c = not (c == 10)

-- a character before the first of the lines
abbrev pub in_front : ℕ → List (List ℕ) → List (List ℕ)
in_front c [] = (c ∷ []) ∷ []
in_front c (line ∷ lines) = (c ∷ line) ∷ lines

-- a line ends at a line feed, which the last may lack; nothing after the last line feed is no line
abbrev pub lines_of : List ℕ → List (List ℕ)
lines_of [] = []
lines_of (c ∷ cs) = cond (not_feed c) (in_front c (lines_of cs)) ([] ∷ lines_of cs)

-- how many characters the first line has
abbrev pub first_length_of : List ℕ → ℕ
first_length_of input = prefix_len not_feed input
