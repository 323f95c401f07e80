-- What a refusal tells its caller, and how checks follow one another. Assumes nothing.
use Rattle.std.specs.Prelude.{ℕ, Bool, cond, List, Ok, Err, Result}

-- each layer has an enum of its refusals, and one definition from it to this
pub record Refusal : Type 0 where
  -- the number of the cause, as the table of refusals has it
  pub cause : ℕ
  -- the values that come back with it, in the table's order
  pub returned : List ℕ

abbrev pub refusal : ℕ → List ℕ → Refusal
refusal c xs = record { cause = c; returned = xs }

-- a check: where it applies the call is refused with this fault, else what is written after it decides
abbrev pub refuse : {A E : Type 0} → Bool → E → Result A E → Result A E
refuse applies fault else = cond applies (Err fault) else

-- an answer whose accepted value is seen through f
abbrev pub ok_as : {A B E : Type 0} → (A → B) → Result A E → Result B E
ok_as f (Ok x) = Ok (f x)
ok_as f (Err e) = Err e
