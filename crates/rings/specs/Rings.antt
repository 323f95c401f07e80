-- What a ring in a row of 16 entries holds, oldest first. Assumes nothing.
use Rattle.std.specs.Prelude.{◌≡◌, ℕ, ◌<◌, List, ◌∷◌, ◌++◌, length, take, drop, slice_index_or}
use Rattle.rings.specs.declared.places.Places.{Places}

-- so many entries from the first on, round the end of the row
unfoldable pub around : {E : Type 0} → List E → ℕ → ℕ → List E
around row first len = take len (drop first (row ++ row))

abbrev pub held : {E : Type 0} → List E → Places → List E
held row places = around row places.first places.len

-- the oldest entry stands at this place of the row
pub record IsOldestAt {E : Type 0} (row : List E) (places : Places) (place : ℕ) : Type 0 where
  pub low : place < 16
  pub some : 0 < length (held row places)
  pub at : (d : E) → held row places ≡ slice_index_or row place d ∷ drop 1 (held row places)
