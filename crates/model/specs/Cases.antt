-- The worked cases, as one statement on the definitions. Assumes nothing.
use Rattle.std.specs.Prelude.{◌≡◌, ℕ, zero, suc, List, [], ◌∷◌, map, length, Ok, Err, slice_index_or}
use Rattle.std.specs.List.{range_with_len}
use Rattle.terms.specs.Rules.{RuleMeaning}
use Rattle.rules.specs.Relations.{validation, first_committer, counting as counting_rule}
use Rattle.maps.specs.Layouts.{residues}
use Rattle.model.specs.declared.fault.CallFault.TheVariants.{NeedNotPosted}
use Rattle.model.specs.declared.verdict.Outcome.TheVariants.{Commit, Abort}
use Rattle.model.specs.declared.verdict.Verdict.TheVariants.{Committed, Aborted}
use Rattle.model.specs.Words.{Access, Intention, worker}
use Rattle.model.specs.Book.{Verdict, commits, decided}
use Rattle.model.specs.Needs.{need_of}
use Rattle.model.specs.Sheets.{Line, blank}
use Rattle.model.specs.Sheets.Line.{line}
use Rattle.model.specs.Sheets.Call.{append, assign, begin, park, resume, finish, verdict, need, tally}
use Rattle.model.specs.Model.{Sheet}

abbrev pub read : ℕ → Access
read cell = record { mode = 0; cell = cell }

abbrev pub write : ℕ → Access
write cell = record { mode = 1; cell = cell }

abbrev pub add : ℕ → Access
add cell = record { mode = 2; cell = cell }

-- an intention that saw the numbers up to the snapshot
abbrev pub saw : ℕ → List Access → Intention
saw snapshot accesses = record { snapshot = snapshot; accesses = accesses }

-- the intentions as they were appended, from number 1 on
abbrev pub in_order : List Intention → ℕ → Intention
in_order xs zero = blank
in_order xs (suc k) = slice_index_or xs k blank

-- what the book says of each of them
abbrev pub verdicts : RuleMeaning → List Intention → List Verdict
verdicts r xs = map (λ k. decided (commits r (in_order xs) k)) (range_with_len 1 (length xs))

-- nine intentions on three partitions: cell 0 lies in partition 1, cell 1 in partition 2, cell 2 in partition 3
abbrev pub nine : List Intention
nine =
    saw 0 (write 1 ∷ [])
    ∷ saw 0 (write 0 ∷ [])
    ∷ saw 0 (write 1 ∷ [])
    ∷ saw 0 (write 2 ∷ [])
    ∷ saw 0 (write 0 ∷ write 1 ∷ [])
    ∷ saw 0 (write 1 ∷ [])
    ∷ saw 0 (write 2 ∷ [])
    ∷ saw 0 (write 0 ∷ write 2 ∷ [])
    ∷ saw 0 (write 1 ∷ [])
    ∷ []

-- what number k of the nine needs from the workers 0, 1, 2 and 3
abbrev pub needs_of : ℕ → List ℕ
needs_of k = map (need_of (residues 3) (in_order nine) k) (range_with_len 0 4)

-- under validation on three partitions: 1 writes cell 1, which lies in partition 2; 2 reads it and writes cell 0, so it is joint.
-- Worker 0 waits while worker 2 is open on 1, and goes on once that is finished. The newest line stands first.
abbrev pub small : List Line
small =
    line tally (Ok (record { appended = 2; assigned = 2; finished = 2; «open» = 0; queued = 0 }))
    ∷ line (verdict 2) (Ok Aborted)
    ∷ line (finish 0 2) (Ok (2, Abort (record { cell = 1; number = 1 })))
    ∷ line (resume 0) (Ok (0, 2))
    ∷ line (park 0 2) (Ok 2)
    ∷ line (begin 0) (Ok (0, 2))
    ∷ line (finish 2 1) (Ok (1, Commit))
    ∷ line (begin 0) (Err (NeedNotPosted 2))
    ∷ line (begin 2) (Ok (2, 1))
    ∷ line (need 0 2) (Ok 1)
    ∷ line assign (Ok (2, 0))
    ∷ line assign (Ok (1, 2))
    ∷ line (append 0 (read 1 ∷ write 0 ∷ [])) (Ok 2)
    ∷ line (append 0 (write 1 ∷ [])) (Ok 1)
    ∷ []

-- a worker takes its next order and commits it
abbrev pub run : ℕ → ℕ → List Line → List Line
run w k above = line (finish w k) (Ok (k, Commit)) ∷ line (begin w) (Ok (w, k)) ∷ above

-- the nine, appended and assigned
abbrev pub nine_assigned : List Line
nine_assigned =
    line assign (Ok (9, 2))
    ∷ line assign (Ok (8, 0))
    ∷ line assign (Ok (7, 3))
    ∷ line assign (Ok (6, 2))
    ∷ line assign (Ok (5, 0))
    ∷ line assign (Ok (4, 3))
    ∷ line assign (Ok (3, 2))
    ∷ line assign (Ok (2, 1))
    ∷ line assign (Ok (1, 2))
    ∷ line (append 0 (write 1 ∷ [])) (Ok 9)
    ∷ line (append 0 (write 0 ∷ write 2 ∷ [])) (Ok 8)
    ∷ line (append 0 (write 2 ∷ [])) (Ok 7)
    ∷ line (append 0 (write 1 ∷ [])) (Ok 6)
    ∷ line (append 0 (write 0 ∷ write 1 ∷ [])) (Ok 5)
    ∷ line (append 0 (write 2 ∷ [])) (Ok 4)
    ∷ line (append 0 (write 1 ∷ [])) (Ok 3)
    ∷ line (append 0 (write 0 ∷ [])) (Ok 2)
    ∷ line (append 0 (write 1 ∷ [])) (Ok 1)
    ∷ []

-- and run: 6 goes on once 5 is finished; 9, which needs 5 too, once worker 0 has gone past that
abbrev pub all_nine : List Line
all_nine =
    run 2 9
    (line (need 2 0) (Ok 5)
    ∷ run 0 8
    (line (need 0 1) (Ok 2)
    ∷ line (need 0 3) (Ok 7)
    ∷ run 2 6
    (line (need 2 0) (Ok 5)
    ∷ run 3 7
    (line (need 3 0) (Ok 0)
    ∷ run 0 5
    (line (begin 2) (Err (NeedNotPosted 6))
    ∷ line (need 0 1) (Ok 2)
    ∷ line (need 0 2) (Ok 3)
    ∷ run 3 4 (run 2 3 (run 1 2 (run 2 1 nine_assigned))))))))

-- on one partition: the second aborts, and what it wrote does not make the third abort
abbrev pub no_mark_left : List Line
no_mark_left =
    run 1 3
    (line (finish 1 2) (Ok (2, Abort (record { cell = 7; number = 1 })))
    ∷ line (begin 1) (Ok (1, 2))
    ∷ run 1 1
    (line assign (Ok (3, 1))
    ∷ line assign (Ok (2, 1))
    ∷ line assign (Ok (1, 1))
    ∷ line (append 0 (read 8 ∷ [])) (Ok 3)
    ∷ line (append 0 (read 7 ∷ write 8 ∷ [])) (Ok 2)
    ∷ line (append 0 (write 7 ∷ [])) (Ok 1)
    ∷ []))

pub record WorkedCases : Type 0 where
  -- ⟨ sheets that the calls give ⟩
  pub gives_small : Sheet (record { rule = validation; map = residues 3 }) small
  pub gives_nine : Sheet (record { rule = validation; map = residues 3 }) all_nine
  pub gives_no_mark_left : Sheet (record { rule = validation; map = residues 1 }) no_mark_left
  -- ⟨ needs of the nine ⟩
  pub workers : map (λ k. worker (residues 3) (in_order nine k)) (range_with_len 1 9) ≡ 2 ∷ 1 ∷ 2 ∷ 3 ∷ 0 ∷ 2 ∷ 3 ∷ 0 ∷ 2 ∷ []
  pub five_needs : needs_of 5 ≡ 0 ∷ 2 ∷ 3 ∷ 0 ∷ []
  pub six_needs : needs_of 6 ≡ 5 ∷ 0 ∷ 0 ∷ 0 ∷ []
  pub seven_needs : needs_of 7 ≡ 0 ∷ 0 ∷ 0 ∷ 0 ∷ []
  pub eight_needs : needs_of 8 ≡ 0 ∷ 2 ∷ 0 ∷ 7 ∷ []
  pub nine_needs : needs_of 9 ≡ 5 ∷ 0 ∷ 0 ∷ 0 ∷ []
  -- ⟨ verdicts, by rule ⟩
  -- what was read was written since the snapshot
  pub write_read : verdicts validation (saw 0 (write 7 ∷ []) ∷ saw 0 (read 7 ∷ []) ∷ []) ≡ Committed ∷ Aborted ∷ []
  -- the write was seen
  pub write_seen_read : verdicts validation (saw 0 (write 7 ∷ []) ∷ saw 1 (read 7 ∷ []) ∷ []) ≡ Committed ∷ Committed ∷ []
  -- what an aborted one wrote clashes with nothing
  pub aborted_writer : verdicts validation (saw 0 (write 7 ∷ []) ∷ saw 0 (read 7 ∷ write 8 ∷ []) ∷ saw 0 (read 8 ∷ []) ∷ []) ≡ Committed ∷ Aborted ∷ Committed ∷ []
  pub write_write_validation : verdicts validation (saw 0 (write 7 ∷ []) ∷ saw 0 (write 7 ∷ []) ∷ []) ≡ Committed ∷ Committed ∷ []
  pub write_write_first_committer : verdicts first_committer (saw 0 (write 7 ∷ []) ∷ saw 0 (write 7 ∷ []) ∷ []) ≡ Committed ∷ Aborted ∷ []
  pub add_add_read : verdicts counting_rule (saw 0 (add 7 ∷ []) ∷ saw 0 (add 7 ∷ []) ∷ saw 0 (read 7 ∷ []) ∷ []) ≡ Committed ∷ Committed ∷ Aborted ∷ []
  pub add_write : verdicts counting_rule (saw 0 (add 7 ∷ []) ∷ saw 0 (write 7 ∷ []) ∷ []) ≡ Committed ∷ Committed ∷ []
  pub read_write_validation : verdicts validation (saw 0 (read 7 ∷ []) ∷ saw 0 (write 7 ∷ []) ∷ []) ≡ Committed ∷ Committed ∷ []
  pub read_write_first_committer : verdicts first_committer (saw 0 (read 7 ∷ []) ∷ saw 0 (write 7 ∷ []) ∷ []) ≡ Committed ∷ Committed ∷ []
  pub read_write_counting : verdicts counting_rule (saw 0 (read 7 ∷ []) ∷ saw 0 (write 7 ∷ []) ∷ []) ≡ Committed ∷ Committed ∷ []
