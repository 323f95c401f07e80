-- Bytes as pairs of hexadecimal digits, upper case only. Assumes nothing.
use Rattle.std.specs.Prelude.{ℕ, ◌+◌, ◌-◌, ◌*◌, ◌/◌, ◌%◌, ◌<◌, Bool, cond, ◌||◌, List, [], ◌∷◌, nat_le, nat_lt}
use Rattle.terms.specs.Numbers.{within}

-- the digit of a value below 16: 0 to 9, then A to F
abbrev pub hex_digit_of : ℕ → ℕ
hex_digit_of v = cond (nat_lt v 10) (48 + v) (55 + v)

abbrev pub is_hex_digit : ℕ → Bool
is_hex_digit c = within 48 57 c || within 65 70 c

-- the value of a digit
abbrev pub hex_value_of : ℕ → ℕ
hex_value_of c = cond (nat_le c 57) (c - 48) (c - 55)

-- two digits for each byte, the high one first
abbrev pub hex_of : List ℕ → List ℕ
hex_of [] = []
hex_of (b ∷ bs) = hex_digit_of (b / 16) ∷ hex_digit_of (b % 16) ∷ hex_of bs

-- the bytes that pairs of digits stand for
abbrev pub bytes_in : List ℕ → List ℕ
bytes_in [] = []
bytes_in (c ∷ []) = []
bytes_in (c ∷ d ∷ cs) = (16 * hex_value_of c + hex_value_of d) ∷ bytes_in cs

-- every number is a byte
abbrev pub Bytes : List ℕ → Type 0
Bytes [] = Unit {0}
Bytes (b ∷ bs) = (b < 256) × Bytes bs
