-- The three rules, over the modes read 0, write 1 and add 2. Assumes nothing.
use Rattle.std.specs.Prelude.{Bool, ◌||◌, ◌&&◌, ◌==◌, ℕ}
use Rattle.terms.specs.Rules.{RuleMeaning}

abbrev pub is_read : ℕ → Bool
is_read mode = mode == 0

abbrev pub is_write : ℕ → Bool
is_write mode = mode == 1

abbrev pub is_add : ℕ → Bool
is_add mode = mode == 2

-- what was read may have been written since
abbrev pub validation : RuleMeaning
validation = record { modes = 2; relation = λ earlier later. is_write earlier && is_read later }

-- of two that write the same cell the first to commit wins
abbrev pub first_committer : RuleMeaning
first_committer = record { modes = 2; relation = λ earlier later. is_write earlier && is_write later }

-- a counter that was read may have been written or moved since; moving it never clashes
abbrev pub counting : RuleMeaning
counting = record { modes = 3; relation = λ earlier later. (is_write earlier || is_add earlier) && is_read later }
