-- The numbers that workers have. Assumes nothing.
use Rattle.std.specs.Prelude.{ℕ, cond, Some, None, Option, nat_lt}

-- workers are numbered 0 to 15
abbrev pub worker_numbered : ℕ → Option ℕ
worker_numbered number = cond (nat_lt number 16) (Some number) None
