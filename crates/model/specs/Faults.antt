-- What each refusal of a call tells. Assumes nothing.
use Rattle.std.specs.Prelude.{ℕ, List, [], ◌∷◌, Some, None, Option}
use Rattle.terms.specs.Refusals.{Refusal, refusal}
pub use Rattle.model.specs.declared.fault.CallFault.{CallFault}
use Rattle.model.specs.declared.fault.CallFault.TheVariants.{AccessCount, SnapshotAhead, UnknownMode, UnknownCell, LogFull, NoneUnassigned, WorkerFull, UnknownWorker, WorkerOpen, NoOrder, NeedNotPosted, NotParked, NotHeld, TicketUnfit, UnknownNumber}

abbrev pub call_refusal : CallFault → Refusal
call_refusal (AccessCount count) = refusal 11 (count ∷ [])
call_refusal (SnapshotAhead last) = refusal 12 (last ∷ [])
call_refusal (UnknownMode index) = refusal 13 (index ∷ [])
call_refusal (UnknownCell index) = refusal 14 (index ∷ [])
call_refusal LogFull = refusal 15 (512 ∷ [])
call_refusal (NoneUnassigned last) = refusal 16 (last ∷ [])
call_refusal (WorkerFull worker) = refusal 17 (worker ∷ [])
call_refusal (UnknownWorker worker) = refusal 18 (worker ∷ [])
call_refusal (WorkerOpen number) = refusal 19 (number ∷ [])
call_refusal (NoOrder worker) = refusal 20 (worker ∷ [])
call_refusal (NeedNotPosted number) = refusal 21 (number ∷ [])
call_refusal (NotParked worker) = refusal 22 (worker ∷ [])
call_refusal (NotHeld worker) = refusal 23 (worker ∷ [])
call_refusal (TicketUnfit worker number) = refusal 24 (worker ∷ number ∷ [])
call_refusal (UnknownNumber last) = refusal 25 (last ∷ [])

-- a value and perhaps a second one, as a list
abbrev pub one_or_two : ℕ × Option ℕ → List ℕ
one_or_two (x, None) = x ∷ []
one_or_two (x, Some y) = x ∷ y ∷ []
