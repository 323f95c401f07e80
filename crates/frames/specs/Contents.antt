-- What a frame says, and its bytes and its line. Numbers of two bytes have the high byte first. Assumes nothing.
use Rattle.std.specs.Prelude.{◌≡◌, ℕ, ◌/◌, ◌%◌, ◌<◌, cond, List, [], ◌∷◌, length, Some, None, Option, ◌==◌, nat_le}
use Rattle.terms.specs.declared.access.Access.{Access}
use Rattle.frames.specs.declared.fault.WriteFault.{WriteFault}
use Rattle.frames.specs.declared.fault.WriteFault.TheVariants.{TableLength, TooManyAccesses}
use Rattle.frames.specs.Hex.{hex_of, Bytes}

pub data Content : Type 0 where
  -- snapshot, accesses
  append : ℕ → List Access → Content
  assign : Content
  -- worker
  begin_park : ℕ → Content
  resume_finish : ℕ → Content
  -- number
  verdict : ℕ → Content
  tally : Content
  -- rule, number of partitions; a table
  set_up_residue : ℕ → ℕ → Content
  set_up_listed : ℕ → ℕ → List ℕ → Content

-- each access: its mode, then its cell
abbrev pub access_bytes : List Access → List ℕ
access_bytes [] = []
access_bytes (a ∷ rest) = a.mode ∷ (a.cell / 256) ∷ (a.cell % 256) ∷ access_bytes rest

-- the kind of the frame, then its fields
abbrev pub bytes_of : Content → List ℕ
bytes_of (append snapshot accesses) = 1 ∷ (snapshot / 256) ∷ (snapshot % 256) ∷ length accesses ∷ access_bytes accesses
bytes_of assign = 2 ∷ []
bytes_of (begin_park worker) = 3 ∷ worker ∷ []
bytes_of (resume_finish worker) = 4 ∷ worker ∷ []
bytes_of (verdict number) = 5 ∷ (number / 256) ∷ (number % 256) ∷ []
bytes_of tally = 6 ∷ []
bytes_of (set_up_residue rule n) = 16 ∷ rule ∷ n ∷ []
bytes_of (set_up_listed rule n table) = 17 ∷ rule ∷ n ∷ table

-- the characters of a frame's line, without its line feed
abbrev pub line_of : Content → List ℕ
line_of f = hex_of (bytes_of f)

-- why no line can hold the frame: a table that has not 1,024 bytes, or more than 8 accesses
abbrev pub no_line_of : Content → Option WriteFault
no_line_of (append snapshot accesses) = cond (nat_le (length accesses) 8) None (Some (TooManyAccesses (length accesses)))
no_line_of assign = None
no_line_of (begin_park worker) = None
no_line_of (resume_finish worker) = None
no_line_of (verdict number) = None
no_line_of tally = None
no_line_of (set_up_residue rule n) = None
no_line_of (set_up_listed rule n table) = cond (length table == 1024) None (Some (TableLength (length table)))

-- a mode is a byte, a cell two
abbrev pub AccessesFit : List Access → Type 0
AccessesFit [] = Unit {0}
AccessesFit (a ∷ rest) = (a.mode < 256) × (a.cell < 65536) × AccessesFit rest

-- each field is within its width: snapshots, cells and numbers two bytes, every other field one
abbrev pub FieldsFit : Content → Type 0
FieldsFit (append snapshot accesses) = (snapshot < 65536) × AccessesFit accesses
FieldsFit assign = Unit {0}
FieldsFit (begin_park worker) = worker < 256
FieldsFit (resume_finish worker) = worker < 256
FieldsFit (verdict number) = number < 65536
FieldsFit tally = Unit {0}
FieldsFit (set_up_residue rule n) = (rule < 256) × (n < 256)
FieldsFit (set_up_listed rule n table) = (rule < 256) × (n < 256) × Bytes table

-- a frame that has a line
pub record Writable (f : Content) : Type 0 where
  pub held : no_line_of f ≡ None
  pub fit : FieldsFit f
