-- The kinds of frames, and the byte that stands for each. Assumes nothing.
use Rattle.std.specs.Prelude.{ℕ, cond, Ok, Err, Result, ◌==◌}
use Rattle.frames.specs.declared.fault.LineFault.{LineFault}
use Rattle.frames.specs.declared.fault.LineFault.TheVariants.{UnknownKind}
use Rattle.frames.specs.declared.kind.Kind.{Kind}
use Rattle.frames.specs.declared.kind.Kind.TheVariants.{Append, Assign, BeginPark, ResumeFinish, Verdict, Tally, SetUpResidue, SetUpListed}
use Rattle.frames.specs.Contents.{Content}
use Rattle.frames.specs.Contents.Content.{append, assign, begin_park, resume_finish, verdict, tally, set_up_residue, set_up_listed}

abbrev pub byte_of : Kind → ℕ
byte_of Append = 1
byte_of Assign = 2
byte_of BeginPark = 3
byte_of ResumeFinish = 4
byte_of Verdict = 5
byte_of Tally = 6
byte_of SetUpResidue = 16
byte_of SetUpListed = 17

-- the kind that a byte stands for, or that no frame has it
abbrev pub kind_from : ℕ → Result Kind LineFault
kind_from byte =
    cond (byte == 1) (Ok Append)
    (cond (byte == 2) (Ok Assign)
    (cond (byte == 3) (Ok BeginPark)
    (cond (byte == 4) (Ok ResumeFinish)
    (cond (byte == 5) (Ok Verdict)
    (cond (byte == 6) (Ok Tally)
    (cond (byte == 16) (Ok SetUpResidue)
    (cond (byte == 17) (Ok SetUpListed)
    (Err (UnknownKind byte)))))))))

-- the kind of a frame that says this
abbrev pub kind_of : Content → Kind
kind_of (append snapshot accesses) = Append
kind_of assign = Assign
kind_of (begin_park worker) = BeginPark
kind_of (resume_finish worker) = ResumeFinish
kind_of (verdict number) = Verdict
kind_of tally = Tally
kind_of (set_up_residue rule n) = SetUpResidue
kind_of (set_up_listed rule n table) = SetUpListed
