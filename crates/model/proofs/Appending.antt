-- An accepted append keeps the invariant.
use Rattle.std.proofs.Common.{◌≡◌, ℕ, suc, ◌+◌, ◌-◌, ◌<◌, ◌≤◌, false, not, eqb, ltb, leb, List, [], ◌∷◌, ◌++◌, length, Ok, sym, refl, ap, ◌∙◌, subst, inl, inr, arith, length-append}
use Rattle.std.specs.List.{AllByRecursion as All}
use Rattle.std.proofs.ByRecursion.{All-from_get_or}
use Rattle.std.proofs.lemmas.List.{get_or_append_left, get_or_at}
use Rattle.std.proofs.lemmas.List.Sums.{prefix_len_passes}
use Rattle.std.proofs.lemmas.Bool.{ltb-true, ltb-false, leb-true, eq-eqb, ne_eqb, cases_eq, cond-true, cond-false}
use Rattle.terms.specs.Accesses.{access}
use Rattle.terms.specs.Numbers.{within}
use Rattle.model.specs.declared.fault.CallFault.TheVariants.{AccessCount, SnapshotAhead, UnknownMode, UnknownCell, LogFull}
use Rattle.model.specs.declared.verdict.Verdict.TheVariants.{Undecided}
use Rattle.model.specs.Finding.{any}
use Rattle.model.specs.Words.{Access, Intention, Setup}
use Rattle.model.specs.Sheets.{History, entered, numbered}
use Rattle.model.specs.Sheets.Event.{appended}
use Rattle.model.specs.State.{Row, State, no_row, row_at, last_number}
use Rattle.model.specs.Model.{known_modes_of, known_cells_of, append_answer, append_leaves}
use Rattle.model.proofs.Found.{passed, ok_same}
use Rattle.model.proofs.Sharing.{Known}
use Rattle.model.proofs.Invariant.{Agrees, Inv}
use Rattle.model.proofs.Oldest.{unassigned_unended}

pub numbered_new : (xs : List (ℕ × Intention)) (k : ℕ) (x : Intention) → numbered ((k, x) ∷ xs) k ≡ x
unfolding numbered
numbered_new xs k x = cond-true (eqb k k) x (numbered xs k) (eq-eqb k k refl)

pub numbered_old : (xs : List (ℕ × Intention)) (k : ℕ) (x : Intention) (j : ℕ) → (j ≡ k → ⊥) → numbered ((k, x) ∷ xs) j ≡ numbered xs j
unfolding numbered
numbered_old xs k x j e = cond-false (eqb j k) x (numbered xs j) (ne_eqb j k e)

-- what an accepted append has shown
pub append_passed : (P : Setup) (s : State) (snapshot : ℕ) (accesses : List Access) (k : ℕ) → Ok k ≡ append_answer P s snapshot accesses → (k ≡ last_number s + 1) × All (Known P) accesses
append_passed P s snapshot accesses k e =
    let (_, e1) = passed (not (within 1 8 (length accesses))) (AccessCount (length accesses)) _ k e in
    let (_, e2) = passed (ltb (last_number s) snapshot) (SnapshotAhead (last_number s)) _ k e1 in
    let (c3, e3) = passed (ltb (known_modes_of P.rule accesses) (length accesses)) (UnknownMode (known_modes_of P.rule accesses)) _ k e2 in
    let (c4, e4) = passed (ltb (known_cells_of accesses) (length accesses)) (UnknownCell (known_cells_of accesses)) _ k e3 in
    let (_, e5) = passed (leb 512 (length s.rows)) LogFull _ k e4 in (
      ok_same k (last_number s + 1) e5,
      All-from_get_or (Known P) accesses (access 0 0) (λ i l. (
        ltb-true _ _ (prefix_len_passes (λ a. ltb a.mode P.rule.modes) accesses i (access 0 0) (omega (arith, ltb-false _ _ c3))),
        leb-true _ _ (prefix_len_passes (λ a. leb a.cell 1023) accesses i (access 0 0) (omega (arith, ltb-false _ _ c4))),
      )),
    )

module _ (P : Setup) (it : ℕ → Intention) (h : History) (s : State) (I : Inv P it h s) where
  pub keep_append : (snapshot : ℕ) (accesses : List Access) (k : ℕ) → Ok k ≡ append_answer P s snapshot accesses →
      Agrees it ((k, record { snapshot = snapshot; accesses = accesses }) ∷ h.appended) →
      Inv P it (entered h (appended k (record { snapshot = snapshot; accesses = accesses }))) (append_leaves s snapshot accesses)
  keep_append snapshot accesses k e agree =
      let (next, known) = append_passed P s snapshot accesses k e in
      let x : Intention = record { snapshot = snapshot; accesses = accesses } in
      let row : Row = record { intention = x; verdict = Undecided } in
      let n : k ≡ suc (length h.appended) = omega (arith, I.rows.size) in
      let new : x ≡ it k = sym (numbered_new h.appended k x) ∙ agree k (omega arith) in
      let old_row : (j : ℕ) → 0 < j → j ≤ length h.appended → row_at (s.rows ++ row ∷ []) j ≡ row_at s.rows j = λ j p l. get_or_append_left s.rows (row ∷ []) no_row (j - 1) (omega (arith, I.rows.size)) in
      let new_row : (j : ℕ) → j ≡ k → row_at (s.rows ++ row ∷ []) j ≡ row = λ j q. get_or_at s.rows row [] no_row (j - 1) (omega (arith, I.rows.size)) in
      let unfinished : (j : ℕ) → j ≡ k → any (eqb j) h.finished ≡ false = λ j q. unassigned_unended P it h s I j (omega (arith, I.bound)) in
      record {
        agree = agree;
        assigned = I.assigned;
        finished = I.finished;
        bound = omega (arith, I.bound);
        sixteen = I.sixteen;
        staff = I.staff;
        marks = I.marks;
        lasts = I.lasts;
        told = I.told;
        counts = I.counts;
        rows = record {
          size = omega (arith, I.rows.size, length-append s.rows (row ∷ []));
          same = λ j p l. elim (cases_eq j k) [
            | inl q ↦ ap (λ (r : Row). r.intention) (new_row j q) ∙ new ∙ ap it (sym q)
            | inr q ↦ ap (λ (r : Row). r.intention) (old_row j p (omega arith)) ∙ I.rows.same j p (omega arith)
          ];
          known = λ j p l. elim (cases_eq j k) [
            | inl q ↦ subst (λ (y : Intention). All (Known P) y.accesses) (new ∙ ap it (sym q)) known
            | inr q ↦ I.rows.known j p (omega arith)
          ];
          verdict = λ j p l. elim (cases_eq j k) [
            | inl q ↦ ap (λ (r : Row). r.verdict) (new_row j q) ∙ sym (cond-false _ _ _ (unfinished j q))
            | inr q ↦ ap (λ (r : Row). r.verdict) (old_row j p (omega arith)) ∙ I.rows.verdict j p (omega arith)
          ];
        };
      }
