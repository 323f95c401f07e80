-- Every sheet that the calls give leads to a state with the invariant.
use Rattle.std.proofs.Common.{◌≡◌, ℕ, ◌+◌, ◌*◌, true, false, cond, not, ltb, List, [], ◌∷◌, ◌++◌, length, replicate, Ok, Err, Result, sym, refl, ap, ◌∙◌, subst, inl, inr, arith, length-append, length-set}
use mathlib.Core.Path.{fun_ext}
use Rattle.std.proofs.lemmas.List.{get_or-replicate, get_or_past, length-replicate}
use Rattle.std.proofs.lemmas.List.Folds.{sum_by-replicate}
use Rattle.std.proofs.lemmas.Bool.{both_ways, lt-leb, cases_lt, cond-false, not-false}
use Rattle.model.specs.Faults.{CallFault}
use Rattle.model.specs.declared.fault.CallFault.TheVariants.{UnknownWorker, NotParked, NotHeld, TicketUnfit}
use Rattle.model.specs.declared.status.Status.TheVariants.{Idle, Held, Parked}
use Rattle.model.specs.Finding.{any}
use Rattle.model.specs.Words.{Intention, Setup, Lawful}
use Rattle.model.specs.Book.{Verdict, decided}
use Rattle.model.specs.Needs.{last_joint, last_plain}
use Rattle.model.specs.Sheets.{Call, Line, Stood, history, intention, appends}
use Rattle.model.specs.Sheets.Line.{line}
use Rattle.model.specs.Sheets.Call.{append, assign, begin, park, resume, recall, finish, verdict, need, tally}
use Rattle.model.specs.Sheets.Event.{assigned}
use Rattle.model.specs.Sheets.{entered}
use Rattle.model.specs.State.{Worker, Status, State, no_worker, no_workers, no_marks_yet, no_numbers_yet, fresh, worker_at, is_on, on_number, is_held, is_parked, last_number, status_at}
use Rattle.model.specs.Model.{kept, assign_leaves, fits, park_answer, resume_answer, recall_answer, passes, finish_answer, verdict_of, Gives, after, call_of, state_of, GivesLine, Sheet}
use Rattle.model.proofs.Found.{last_none, passed, ok_same}
use Rattle.model.proofs.Invariant.{Agrees, posts, Staff, Marks, ToldOf, Inv}
use Rattle.model.proofs.Appending.{numbered_old, append_passed, keep_append}
use Rattle.model.proofs.Moving.{begin_passed, keep_begin, keep_move}
use Rattle.model.proofs.Assigning.{assign_passed, keep_assign}
use Rattle.model.proofs.Finishing.{held_on, keep_finish}

-- ⟨ the start ⟩

all_idle : worker_at no_workers ≡ (λ _. no_worker)
unfolding no_workers
all_idle = fun_ext (λ w. elim (cases_lt w 16) [ inl l ↦ get_or-replicate 16 w no_worker no_worker l | inr l ↦ get_or_past (replicate 16 no_worker) w no_worker (omega (arith, length-replicate 16 no_worker)) ])

inv_fresh : (P : Setup) (it : ℕ → Intention) → Agrees it [] → Inv P it (history []) fresh
unfolding no_workers no_marks_yet no_numbers_yet any last_joint last_plain
inv_fresh P it agree = record {
  agree = agree;
  assigned = refl;
  finished = refl;
  bound = omega arith;
  sixteen = length-replicate 16 no_worker;
  rows = record { size = refl; same = λ k p l. absurd (omega arith); known = λ k p l. absurd (omega arith); verdict = λ k p l. absurd (omega arith) };
  staff = subst (Staff P it 0) (sym all_idle) (record {
    queues = λ w. (omega arith, λ j a b. absurd (omega arith));
    opens = λ w o. absurd (both_ways false refl o);
    clear = λ j f i l. absurd (omega arith);
  });
  marks = subst (λ at. Marks P it (posts at) no_marks_yet) (sym all_idle) (record {
    size = length-replicate {A = ℕ} 4096 0;
    is = λ c m hc hm p. absurd (omega (arith, get_or-replicate {A = ℕ} 4096 (4 * c + m) 0 0 (omega arith)));
    top = λ c m j hc hm p M. absurd (omega (arith, M.fin));
  });
  lasts = record {
    joints_size = length-replicate {A = ℕ} 16 0;
    plains_size = length-replicate {A = ℕ} 16 0;
    joint = λ p l. get_or-replicate {A = ℕ} 16 p 0 0 (omega arith) ∙ sym (last_none _);
    plain = λ p b l. get_or-replicate {A = ℕ} 16 p 0 0 (omega arith) ∙ sym (last_none _);
  };
  told = subst (ToldOf P it 0 [] [] []) (sym all_idle) (record {
    done = λ k t. absurd (both_ways false refl t);
    undone = λ k p t. p;
    has = λ w k t. absurd (both_ways false refl t);
    had = λ k p l. absurd (omega arith);
    began = λ w k t. absurd (both_ways false refl t);
    begun = λ w o. absurd (both_ways false refl o);
  });
  counts = record {
    load = omega (arith, sum_by-replicate (λ (x : Worker). length x.orders) 16 no_worker);
    once = λ k p. sym (cond-false _ _ _ (lt-leb k 0 p));
    homes = tt;
    done = refl;
    opened = omega (arith, sum_by-replicate (λ (x : Worker). cond (is_on x.status) 1 0) 16 no_worker);
  };
}

-- ⟨ what an answer leaves ⟩

-- a refusal leaves the state as it was, and an accepted answer the state that belongs to it
kept_err : {A : Type 0} (r : Result A CallFault) (s : State) (leaves : A → State) (fault : CallFault) → Err fault ≡ r → kept r s leaves ≡ s
kept_err r s leaves fault e = subst (λ r. kept r s leaves ≡ s) e refl

kept_ok : {A : Type 0} (r : Result A CallFault) (s : State) (leaves : A → State) (x : A) → Ok x ≡ r → kept r s leaves ≡ leaves x
kept_ok r s leaves x e = subst (λ r. kept r s leaves ≡ leaves x) e refl

pub refused_same : (P : Setup) (s : State) (c : Call) (fault : CallFault) → Gives P s c (Err fault) → after P s c ≡ s
refused_same P s (append snapshot accesses) fault e = kept_err _ s _ fault e
refused_same P s assign fault e = kept_err _ s _ fault e
refused_same P s (begin w) fault e = kept_err _ s _ fault e
refused_same P s (park w k) fault e = kept_err _ s _ fault e
refused_same P s (resume w) fault e = kept_err _ s _ fault e
refused_same P s (recall w) fault e = kept_err _ s _ fault e
refused_same P s (finish w k) fault (e, _) = kept_err _ s _ fault e
refused_same P s (verdict k) fault e = refl
refused_same P s (need w v) fault e = refl
refused_same P s tally fault e = refl

-- ⟨ tickets ⟩

-- a ticket that is accepted fits
pub finish_passed : (P : Setup) (s : State) (w k : ℕ) (x : ℕ × Verdict) → Ok x ≡ finish_answer P s w k → (fits s w k ≡ true) × (x ≡ (k, decided (passes P s k)))
finish_passed P s w k x e =
    let (c, e1) = passed (not (fits s w k)) (TicketUnfit w k) _ x e in
    (not-false _ c, ok_same x (k, decided (passes P s k)) e1)

park_passed : (s : State) (w k j : ℕ) → Ok j ≡ park_answer s w k → (fits s w k ≡ true) × (j ≡ k)
park_passed s w k j e =
    let (c, e1) = passed (not (fits s w k)) (TicketUnfit w k) _ j e in
    (not-false _ c, ok_same j k e1)

parked_on : (x : Status) → is_parked x ≡ true → is_on x ≡ true
parked_on Idle h = absurd (both_ways false refl h)
parked_on (Held k) h = refl
parked_on (Parked k) h = refl

held_is_on : (x : Status) → is_held x ≡ true → is_on x ≡ true
held_is_on Idle h = absurd (both_ways false refl h)
held_is_on (Held k) h = refl
held_is_on (Parked k) h = refl

resume_passed : (P : Setup) (s : State) (w : ℕ) (x : ℕ × ℕ) → Ok x ≡ resume_answer P s w → (is_on (status_at s w) ≡ true) × (x.1 ≡ on_number (status_at s w))
resume_passed P s w x e =
    let (_, e1) = passed (ltb P.map.partitions w) (UnknownWorker w) _ x e in
    let (c, e2) = passed (not (is_parked (status_at s w))) (NotParked w) _ x e1 in
    (parked_on _ (not-false _ c), ap (λ (t : ℕ × ℕ). t.1) (ok_same x (w, on_number (status_at s w)) e2))

recall_passed : (P : Setup) (s : State) (w k : ℕ) → Ok k ≡ recall_answer P s w → (is_on (status_at s w) ≡ true) × (k ≡ on_number (status_at s w))
recall_passed P s w k e =
    let (_, e1) = passed (ltb P.map.partitions w) (UnknownWorker w) _ k e in
    let (c, e2) = passed (not (is_held (status_at s w))) (NotHeld w) _ k e1 in
    (held_is_on _ (not-false _ c), ok_same k (on_number (status_at s w)) e2)

-- ⟨ every line ⟩

module _ (P : Setup) (L : Lawful P) (it : ℕ → Intention) where
  keep : (above : List Line) (s : State) (l : Line) → Inv P it (history above) s → GivesLine P s l → Agrees it (history (l ∷ above)).appended → Inv P it (history (l ∷ above)) (after P s (call_of l))
  keep above s (line c (Err fault)) I g agree = subst (Inv P it (history above)) (sym (refused_same P s c fault g)) I
  keep above s (line (append snapshot accesses) (Ok k)) I g agree =
      subst (Inv P it (history (line (append snapshot accesses) (Ok k) ∷ above))) (sym (kept_ok _ s _ k g)) (keep_append P it (history above) s I snapshot accesses k g agree)
  keep above s (line assign (Ok x)) I g agree =
      let (less, e) = assign_passed P s x g in
      subst (Inv P it (history (line assign (Ok x) ∷ above))) (sym (kept_ok _ s _ x g))
      (subst (λ (y : ℕ × ℕ). Inv P it (entered (history above) (assigned y.1 y.0)) (assign_leaves P s)) (sym e) (keep_assign P L it (history above) s I less))
  keep above s (line (begin w) (Ok x)) I g agree =
      subst (Inv P it (history (line (begin w) (Ok x) ∷ above))) (sym (kept_ok _ s _ x g)) (keep_begin P it (history above) s I L w x.1 (begin_passed P s w x g))
  keep above s (line (park w k) (Ok j)) I g agree =
      let (f, e) = park_passed s w k j g in
      let (o, n) = held_on k (status_at s w) f in
      subst (Inv P it (history above)) (sym (kept_ok _ s _ j g)) (keep_move P it (history above) s I w (Parked j) o refl (e ∙ sym n))
  keep above s (line (resume w) (Ok x)) I g agree =
      let (o, e) = resume_passed P s w x g in
      subst (Inv P it (history above)) (sym (kept_ok _ s _ x g)) (keep_move P it (history above) s I w (Held x.1) o refl e)
  keep above s (line (recall w) (Ok k)) I g agree =
      let (o, e) = recall_passed P s w k g in
      subst (Inv P it (history above)) (sym (kept_ok _ s _ k g)) (keep_move P it (history above) s I w (Parked k) o refl e)
  keep above s (line (finish w k) (Ok x)) I g agree =
      let (f, e) = finish_passed P s w k (x.0, verdict_of x.1) g.0 in
      subst (Inv P it (history (line (finish w k) (Ok x) ∷ above))) (sym (kept_ok _ s _ (x.0, verdict_of x.1) g.0)) (keep_finish P L it (history above) s I w k f)
  keep above s (line (verdict k) (Ok v)) I g agree = I
  keep above s (line (need w v) (Ok n)) I g agree = I
  keep above s (line tally (Ok x)) I g agree = I

-- ⟨ every sheet ⟩

-- there is a row for each accepted append
rows_after : (P : Setup) (above : List Line) (s : State) (l : Line) → GivesLine P s l → length s.rows ≡ appends above → length (after P s (call_of l)).rows ≡ appends (l ∷ above)
rows_after P above s (line c (Err fault)) g e = ap last_number (refused_same P s c fault g) ∙ e
rows_after P above s (line (append snapshot accesses) (Ok k)) g e = ap last_number (kept_ok _ s _ k g) ∙ length-append s.rows _ ∙ omega (arith, e)
rows_after P above s (line assign (Ok x)) g e = ap last_number (kept_ok _ s _ x g) ∙ e
rows_after P above s (line (begin w) (Ok x)) g e = ap last_number (kept_ok _ s _ x g) ∙ e
rows_after P above s (line (park w k) (Ok x)) g e = ap last_number (kept_ok _ s _ x g) ∙ e
rows_after P above s (line (resume w) (Ok x)) g e = ap last_number (kept_ok _ s _ x g) ∙ e
rows_after P above s (line (recall w) (Ok x)) g e = ap last_number (kept_ok _ s _ x g) ∙ e
rows_after P above s (line (finish w k) (Ok x)) g e = ap last_number (kept_ok _ s _ (x.0, verdict_of x.1) g.0) ∙ length-set s.rows _ _ ∙ e
rows_after P above s (line (verdict k) (Ok x)) g e = e
rows_after P above s (line (need w v) (Ok x)) g e = e
rows_after P above s (line tally (Ok x)) g e = e

rows_are : (P : Setup) (sheet : List Line) → Sheet P sheet → length (state_of P sheet).rows ≡ appends sheet
rows_are P [] sh = refl
rows_are P (l ∷ above) sh = rows_after P above (state_of P above) l sh.0 (rows_are P above sh.1)

module _ (P : Setup) (it : ℕ → Intention) where
  -- what agrees with a sheet agrees with what stood above its last line
  agree_back : (above : List Line) (s : State) (l : Line) → length s.rows ≡ appends above → GivesLine P s l → Agrees it (history (l ∷ above)).appended → Agrees it (history above).appended
  agree_back above s (line c (Err fault)) e g a = a
  agree_back above s (line (append snapshot accesses) (Ok k)) e g a =
      λ j l. sym (numbered_old (history above).appended k _ j (λ q. omega (arith, (append_passed P s snapshot accesses k g).0))) ∙ a j (omega arith)
  agree_back above s (line assign (Ok x)) e g a = a
  agree_back above s (line (begin w) (Ok x)) e g a = a
  agree_back above s (line (park w k) (Ok x)) e g a = a
  agree_back above s (line (resume w) (Ok x)) e g a = a
  agree_back above s (line (recall w) (Ok x)) e g a = a
  agree_back above s (line (finish w k) (Ok x)) e g a = a
  agree_back above s (line (verdict k) (Ok x)) e g a = a
  agree_back above s (line (need w v) (Ok x)) e g a = a
  agree_back above s (line tally (Ok x)) e g a = a

  agree_above : (below above : List Line) → Sheet P (below ++ above) → Agrees it (history (below ++ above)).appended → Agrees it (history above).appended
  agree_above [] above sh a = a
  agree_above (l ∷ below) above sh a = agree_above below above sh.1 (agree_back (below ++ above) (state_of P (below ++ above)) l (rows_are P (below ++ above) sh.1) sh.0 a)

  inv : Lawful P → (sheet : List Line) → Sheet P sheet → Agrees it (history sheet).appended → Inv P it (history sheet) (state_of P sheet)
  inv L [] sh a = inv_fresh P it a
  inv L (l ∷ above) sh a = keep P L it above (state_of P above) l (inv L above sh.1 (agree_back above (state_of P above) l (rows_are P above sh.1) sh.0 a)) sh.0 a

sheet_above : (P : Setup) (below above : List Line) → Sheet P (below ++ above) → Sheet P above
sheet_above P [] above sh = sh
sheet_above P (l ∷ below) above sh = sheet_above P below above sh.1

module _ (P : Setup) (L : Lawful P) (sheet : List Line) (sh : Sheet P sheet) (above : List Line) (stood : Stood sheet above) where
  -- what stood on the sheet at some moment is a sheet
  pub sheet_then : Sheet P above
  sheet_then = sheet_above P stood.0 above (subst (Sheet P) stood.1 sh)

  -- and its state has the invariant at the intentions of the whole sheet
  pub inv_then : Inv P (intention sheet) (history above) (state_of P above)
  inv_then =
      let whole : Agrees (intention sheet) (history (stood.0 ++ above)).appended = subst (λ (xs : List Line). Agrees (intention sheet) (history xs).appended) stood.1 (λ j l. refl) in
      inv P (intention sheet) L above sheet_then (agree_above P (intention sheet) stood.0 above (subst (Sheet P) stood.1 sh) whole)

pub inv_now : (P : Setup) → Lawful P → (sheet : List Line) → Sheet P sheet → Inv P (intention sheet) (history sheet) (state_of P sheet)
inv_now P L sheet sh = inv P (intention sheet) L sheet sh (λ j l. refl)
