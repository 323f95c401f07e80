-- Lines counted by what they ask for. Assumes nothing.
use Rattle.std.specs.Prelude.{ℕ, ◌+◌, ◌-◌, ◌^◌, min, List, Some, None, Ok, Err, codes, Option, Result, slice_index, slice_set}
use Rattle.frames.specs.declared.fault.LineFault.{LineFault}
use Rattle.frames.specs.declared.kind.Kind.{Kind}
use Rattle.frames.specs.declared.kind.Kind.TheVariants.{Append, Assign, BeginPark, ResumeFinish, Verdict, Tally, SetUpResidue, SetUpListed}
use Rattle.frames.specs.Contents.{Content}
use Rattle.frames.specs.Kinds.{kind_of}

-- the kind of what a line was read as, or none if it does not read
abbrev pub kind_in : Result Content LineFault → Option Kind
kind_in (Ok f) = Some (kind_of f)
kind_in (Err e) = None

-- the place of a kind's count
abbrev pub place_of : Option Kind → ℕ
place_of (Some Append) = 0
place_of (Some Assign) = 1
place_of (Some BeginPark) = 2
place_of (Some ResumeFinish) = 3
place_of (Some Verdict) = 4
place_of (Some Tally) = 5
place_of (Some SetUpResidue) = 6
place_of (Some SetUpListed) = 7
place_of None = 8

abbrev pub kind_words : Option Kind → List ℕ
kind_words (Some Append) = codes "append"
kind_words (Some Assign) = codes "assign"
kind_words (Some BeginPark) = codes "begin, park"
kind_words (Some ResumeFinish) = codes "resume, finish"
kind_words (Some Verdict) = codes "verdict"
kind_words (Some Tally) = codes "tally"
kind_words (Some SetUpResidue) = codes "set up, residue map"
kind_words (Some SetUpListed) = codes "set up, listed map"
kind_words None = codes "does not read"

-- one more, as far as a count of 64 bits goes
abbrev pub more : ℕ → ℕ
more n = min (n + 1) (2 ^ 64 - 1)

abbrev pub count_in : List ℕ → Option Kind → ℕ
count_in counts k = slice_index counts (place_of k)

abbrev pub counted : List ℕ → Option Kind → List ℕ
counted counts k = slice_set counts (place_of k) (more (count_in counts k))
