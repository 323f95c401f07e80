-- What the characters of a line, those before its line feed, are read as. Assumes nothing.
use Rattle.std.specs.Prelude.{ℕ, ◌+◌, ◌*◌, ◌%◌, Bool, cond, ◌&&◌, List, [], ◌∷◌, length, drop, Some, None, Ok, Err, Option, Result, ◌==◌, nat_le, nat_lt, slice_index}
use Rattle.std.specs.List.{prefix_len}
use Rattle.std.specs.Option.{ok_or}
use Rattle.terms.specs.declared.access.Access.{Access}
use Rattle.terms.specs.Refusals.{refuse}
use Rattle.frames.specs.declared.fault.LineFault.{LineFault}
use Rattle.frames.specs.declared.fault.LineFault.TheVariants.{OddCount, NotHexadecimal, Empty, WrongLength}
use Rattle.frames.specs.declared.kind.Kind.{Kind}
use Rattle.frames.specs.declared.kind.Kind.TheVariants.{Append, Assign, BeginPark, ResumeFinish, Verdict, Tally, SetUpResidue, SetUpListed}
use Rattle.frames.specs.Hex.{is_hex_digit, bytes_in}
use Rattle.terms.specs.Accesses.{access}
use Rattle.frames.specs.Kinds.{kind_from}
use Rattle.frames.specs.Contents.{Content}
use Rattle.frames.specs.Contents.Content.{append, assign, begin_park, resume_finish, verdict, tally, set_up_residue, set_up_listed}

-- the number in bytes i and i + 1
abbrev pub pair_at : List ℕ → ℕ → ℕ
pair_at bs i = 256 * slice_index bs i + slice_index bs (i + 1)

-- an access for each three bytes
abbrev pub accesses_in : List ℕ → List Access
accesses_in [] = []
accesses_in (m ∷ []) = []
accesses_in (m ∷ h ∷ []) = []
accesses_in (m ∷ h ∷ l ∷ bs) = access m (256 * h + l) ∷ accesses_in bs

-- an append has 4 bytes, of which the last counts the accesses, at most 8, and 3 bytes for each of them
abbrev pub append_sized : List ℕ → Bool
append_sized bs = nat_le (slice_index bs 3) 8 && length bs == 4 + 3 * slice_index bs 3

-- what bytes say as a frame of a kind, if they are as many as that kind has
abbrev pub said_in : Kind → List ℕ → Option Content
said_in Append bs = cond (append_sized bs) (Some (append (pair_at bs 1) (accesses_in (drop 4 bs)))) None
said_in Assign bs = cond (length bs == 1) (Some assign) None
said_in BeginPark bs = cond (length bs == 2) (Some (begin_park (slice_index bs 1))) None
said_in ResumeFinish bs = cond (length bs == 2) (Some (resume_finish (slice_index bs 1))) None
said_in Verdict bs = cond (length bs == 3) (Some (verdict (pair_at bs 1))) None
said_in Tally bs = cond (length bs == 1) (Some tally) None
said_in SetUpResidue bs = cond (length bs == 3) (Some (set_up_residue (slice_index bs 1) (slice_index bs 2))) None
said_in SetUpListed bs = cond (length bs == 1027) (Some (set_up_listed (slice_index bs 1) (slice_index bs 2) (drop 3 bs))) None

-- else their count is wrong; and bytes whose kind no frame has say nothing
abbrev pub frame_with : Result Kind LineFault → List ℕ → Result Content LineFault
frame_with (Err e) bs = Err e
frame_with (Ok kind) bs = ok_or (said_in kind bs) (WrongLength (length bs))

-- the first byte is the kind
abbrev pub frame_in : List ℕ → Result Content LineFault
frame_in bs = refuse (length bs == 0) Empty (frame_with (kind_from (slice_index bs 0)) bs)

-- the checks of a line, in the order of the table of refusals
abbrev pub read_answer : List ℕ → Result Content LineFault
read_answer line =
    refuse (length line % 2 == 1) (OddCount (length line))
    (refuse (nat_lt (prefix_len is_hex_digit line) (length line)) (NotHexadecimal (prefix_len is_hex_digit line))
    (frame_in (bytes_in line)))
