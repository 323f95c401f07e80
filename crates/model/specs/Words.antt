-- The words of the subject: intentions, the partitions that they touch, the worker that takes them. Assumes nothing.
use Rattle.std.specs.Prelude.{◌≡◌, ℕ, Bool, true, cond, ◌&&◌, List, [], ◌∷◌, ◌==◌}
pub use Rattle.terms.specs.declared.access.Access.{Access}
use Rattle.terms.specs.Maps.{MapMeaning, LawfulMap}
use Rattle.terms.specs.Rules.{RuleMeaning, LawfulRule}
use Rattle.model.specs.Finding.{any, all}

pub record Intention : Type 0 where
  -- the number of the last intention whose effect was seen, or 0
  pub snapshot : ℕ
  -- 1 to 8 of them; one access may stand twice
  pub accesses : List Access

-- a certifier is made from one rule and one map, and keeps both
pub record Setup : Type 0 where
  pub rule : RuleMeaning
  pub map : MapMeaning

pub record Lawful (P : Setup) : Type 0 where
  pub rule : LawfulRule P.rule
  pub map : LawfulMap P.map

-- an access is the one of this mode at this cell
abbrev pub is_at : ℕ → ℕ → Access → Bool
is_at cell mode a = a.cell == cell && a.mode == mode

-- an intention has an access of this mode at this cell
unfoldable pub has : Intention → ℕ → ℕ → Bool
has x cell mode = any (is_at cell mode) x.accesses

abbrev pub lies_in : MapMeaning → ℕ → Access → Bool
lies_in m p a = m.partition a.cell == p

-- an intention touches the partitions of its cells
unfoldable pub touches : MapMeaning → Intention → ℕ → Bool
touches m x p = any (lies_in m p) x.accesses

-- two intentions touch a partition of both
abbrev pub Shares : MapMeaning → Intention → Intention → Type 0
Shares m x y = (p : ℕ) × (touches m x p ≡ true) × (touches m y p ≡ true)

-- the one partition that all the cells lie in, or 0 where they lie in several
unfoldable pub home : MapMeaning → List Access → ℕ
home m [] = 0
home m (a ∷ rest) = cond (all (lies_in m (m.partition a.cell)) rest) (m.partition a.cell) 0

-- the worker that takes an intention: worker p takes a plain one on the partition p, worker 0 a joint one
unfoldable pub worker : MapMeaning → Intention → ℕ
worker m x = home m x.accesses

abbrev pub is_joint : MapMeaning → Intention → Bool
is_joint m x = worker m x == 0
