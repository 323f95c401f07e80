-- The last assigned numbers, and what a joint order needs and leaves by the partitions that it touches. Assumes nothing.
use Rattle.std.specs.Prelude.{ℕ, Bool, false, cond, List, map, ◌==◌, slice_index, slice_index_or}
use Rattle.std.specs.List.{range_with_len}

-- by partition, which has its worker's number
pub record LastLists : Type 0 where
  -- the last assigned joint number that touches it
  pub joints : List ℕ
  -- the last assigned plain number of its worker
  pub plains : List ℕ

-- the last plain number of worker v, if it touches partition v; from itself a worker needs nothing
abbrev pub joint_need_of : List Bool → List ℕ → ℕ → ℕ
joint_need_of touched plains v = cond (v == 0) 0 (cond (slice_index_or touched v false) (slice_index plains v) 0)

abbrev pub joint_needs_of : List Bool → List ℕ → List ℕ
joint_needs_of touched plains = map (joint_need_of touched plains) (range_with_len 0 16)

-- it becomes the last joint number of each partition that it touches
abbrev pub joint_at_of : List Bool → List ℕ → ℕ → ℕ → ℕ
joint_at_of touched joints number p = cond (slice_index_or touched p false) number (slice_index joints p)

abbrev pub joints_after_of : List Bool → List ℕ → ℕ → List ℕ
joints_after_of touched joints number = map (joint_at_of touched joints number) (range_with_len 0 16)
