-- What a clash rule means: how many modes it knows, and which pairs of them clash. Assumes nothing.
use Rattle.std.specs.Prelude.{ℕ, ◌≤◌, Bool, ◌||◌, nat_le}

pub record RuleMeaning : Type 0 where
  -- the modes are the numbers below this one
  pub modes : ℕ
  -- whether an earlier mode and a later one on the same cell clash
  pub relation : ℕ → ℕ → Bool

-- a rule knows at least one mode and at most four
pub record LawfulRule (r : RuleMeaning) : Type 0 where
  pub some : 1 ≤ r.modes
  pub few : r.modes ≤ 4

-- the answer for any two modes: yes where the rule does not know one of them, else by its relation
abbrev pub clashes : RuleMeaning → ℕ → ℕ → Bool
clashes r earlier later = nat_le r.modes earlier || (nat_le r.modes later || r.relation earlier later)
