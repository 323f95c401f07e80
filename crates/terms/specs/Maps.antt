-- What a cell map means: how many partitions there are, and which of them each cell lies in. Assumes nothing.
use Rattle.std.specs.Prelude.{◌≡◌, ℕ, ◌<◌, ◌≤◌}

pub record MapMeaning : Type 0 where
  pub partitions : ℕ
  pub partition : ℕ → ℕ

-- there are 1 to 15 partitions; each cell up to 1,023 lies in one of them, and a cell above in none, written 0
pub record LawfulMap (m : MapMeaning) : Type 0 where
  pub some : 1 ≤ m.partitions
  pub few : m.partitions ≤ 15
  pub first : (cell : ℕ) → cell ≤ 1023 → 1 ≤ m.partition cell
  pub last : (cell : ℕ) → cell ≤ 1023 → m.partition cell ≤ m.partitions
  pub none : (cell : ℕ) → 1023 < cell → m.partition cell ≡ 0
