-- What each refusal of the line reader and of the line writer tells. Assumes nothing.
use Rattle.std.specs.Prelude.{[], ◌∷◌}
use Rattle.terms.specs.Refusals.{Refusal, refusal}
use Rattle.frames.specs.declared.fault.LineFault.{LineFault}
use Rattle.frames.specs.declared.fault.LineFault.TheVariants.{OddCount, NotHexadecimal, Empty, UnknownKind, WrongLength}
use Rattle.frames.specs.declared.fault.WriteFault.{WriteFault}
use Rattle.frames.specs.declared.fault.WriteFault.TheVariants.{TableLength, TooManyAccesses, ShortBuffer}

abbrev pub line_refusal : LineFault → Refusal
line_refusal (OddCount characters) = refusal 1 (characters ∷ [])
line_refusal (NotHexadecimal place) = refusal 2 (place ∷ [])
line_refusal Empty = refusal 3 (256 ∷ [])
line_refusal (UnknownKind kind) = refusal 3 (kind ∷ [])
line_refusal (WrongLength bytes) = refusal 4 (bytes ∷ [])

abbrev pub write_refusal : WriteFault → Refusal
write_refusal (TableLength bytes) = refusal 9 (bytes ∷ [])
write_refusal (TooManyAccesses count) = refusal 11 (count ∷ [])
write_refusal (ShortBuffer needed) = refusal 26 (needed ∷ [])
