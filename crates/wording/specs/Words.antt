-- The lines of a log in plain words. Assumes nothing.
use Rattle.std.specs.Prelude.{ℕ, cond, List, [], ◌∷◌, ◌++◌, Ok, Err, codes, decimal, Result, ◌==◌, nat_le}
use Rattle.std.specs.List.{flat_map}
use Rattle.terms.specs.declared.access.Access.{Access}
use Rattle.frames.specs.declared.fault.LineFault.{LineFault}
use Rattle.frames.specs.declared.fault.LineFault.TheVariants.{OddCount, NotHexadecimal, Empty, UnknownKind, WrongLength}
use Rattle.frames.specs.Contents.{Content}
use Rattle.frames.specs.Contents.Content.{append, assign, begin_park, resume_finish, verdict, tally, set_up_residue, set_up_listed}
use Rattle.frames.specs.Faults.{line_refusal}
use Rattle.frames.specs.Hex.{hex_of}

-- what an access did
abbrev pub mode_words : ℕ → List ℕ
mode_words m =
    cond (m == 0) (codes "read")
    (cond (m == 1) (codes "write")
    (cond (m == 2) (codes "add to")
    (codes "mode " ++ (decimal m ++ codes " on"))))

abbrev pub access_words : Access → List ℕ
access_words a = mode_words a.mode ++ (codes " cell " ++ decimal a.cell)

-- further accesses
abbrev pub more_words : List Access → List ℕ
more_words accesses = flat_map (λ a. codes ", " ++ access_words a) accesses

abbrev pub accesses_words : List Access → List ℕ
accesses_words [] = codes "no access"
accesses_words (a ∷ rest) = access_words a ++ more_words rest

-- the rule that a set-up asks for
abbrev pub rule_name_of : ℕ → List ℕ
rule_name_of rule =
    cond (nat_le rule 1) (codes "validation")
    (cond (rule == 2) (codes "first committer")
    (cond (rule == 3) (codes "counting")
    (codes "unknown")))

abbrev pub rule_words : ℕ → List ℕ
rule_words rule = codes "rule " ++ (decimal rule ++ (codes " (" ++ (rule_name_of rule ++ codes ")")))

-- what a frame asks for
abbrev pub frame_words : Content → List ℕ
frame_words (append snapshot accesses) = codes "append, snapshot " ++ (decimal snapshot ++ (codes ": " ++ accesses_words accesses))
frame_words assign = codes "assign"
frame_words (begin_park worker) = codes "begin, park, worker " ++ decimal worker
frame_words (resume_finish worker) = codes "resume, finish, worker " ++ decimal worker
frame_words (verdict number) = codes "verdict of intention " ++ decimal number
frame_words tally = codes "tally"
frame_words (set_up_residue rule n) = codes "set up, " ++ (rule_words rule ++ (codes ", residue map, n = " ++ decimal n))
frame_words (set_up_listed rule n table) = codes "set up, " ++ (rule_words rule ++ (codes ", listed map, n = " ++ decimal n))

-- the name of a cause, with what it returns
abbrev pub cause_words : LineFault → List ℕ
cause_words (OddCount characters) = codes "odd count of characters, " ++ decimal characters
cause_words (NotHexadecimal place) = codes "no hex digit at place " ++ decimal place
cause_words Empty = codes "empty line"
cause_words (UnknownKind kind) = codes "unknown kind " ++ hex_of (kind ∷ [])
cause_words (WrongLength bytes) = codes "wrong length, bytes: " ++ decimal bytes

-- why a line does not read
abbrev pub fault_words : LineFault → List ℕ
fault_words e = codes "does not read, cause " ++ (decimal (line_refusal e).cause ++ (codes ": " ++ cause_words e))

abbrev pub reading_words : Result Content LineFault → List ℕ
reading_words (Ok f) = frame_words f
reading_words (Err e) = fault_words e

-- a line with its number
abbrev pub line_words : ℕ → Result Content LineFault → List ℕ
line_words number reading = decimal number ++ (codes ": " ++ reading_words reading)
