-- Words that are written piece by piece.
use Rattle.std.proofs.Common.{◌≡◌, ℕ, ◌-◌, ◌^◌, ◌<◌, true, false, [], ◌∷◌}
use Rattle.std.proofs.lemmas.Fmt.{hex_byte}
use Rattle.std.specs.Fmt.{digits, padded_integral, format_spec}
use Rattle.frames.specs.Hex.{hex_of}

-- a byte in upper-case hex with two digits is written as the log has it
pub hex_shown : (byte : ℕ) → byte < 256 → padded_integral (format_spec 32 0 4 2 (2 ^ 64 - 1)) false [] (digits 16 true byte) ≡ hex_of (byte ∷ [])
hex_shown byte h = hex_byte true byte h
