-- Where a list first fails a test. Assumes nothing.
use Rattle.std.specs.Prelude.{ℕ, Bool, cond, List, length, Some, None, Option, nat_lt}
use Rattle.std.specs.List.{prefix_len}

-- the index of the first element that fails the test, if one does: so many before it pass
abbrev pub first_failing : {A : Type 0} → (A → Bool) → List A → Option ℕ
first_failing passes xs = cond (nat_lt (prefix_len passes xs) (length xs)) (Some (prefix_len passes xs)) None
