-- The book: the verdicts that intentions get one at a time, by the rule alone. Assumes nothing.
use Rattle.std.specs.Prelude.{ℕ, zero, suc, Bool, true, false, cond, not, ◌&&◌, ◌==◌, nat_le, nat_lt}
use Rattle.terms.specs.Rules.{RuleMeaning, clashes}
use Rattle.model.specs.Finding.{any, exists}
use Rattle.model.specs.Words.{Access, Intention}
pub use Rattle.model.specs.declared.verdict.Verdict.{Verdict}
use Rattle.model.specs.declared.verdict.Verdict.TheVariants.{Committed, Aborted}

-- the two accesses share a cell, and the rule says yes for their modes, the earlier one's first
abbrev pub clashes_at : RuleMeaning → Access → Access → Bool
clashes_at r earlier later = earlier.cell == later.cell && clashes r earlier.mode later.mode

-- an access of the earlier intention clashes with one of the later
unfoldable pub conflicts : RuleMeaning → Intention → Intention → Bool
conflicts r earlier later = any (λ a. any (clashes_at r a) later.accesses) earlier.accesses

-- whether number j is committed, in the book that holds the numbers 1 to k.
-- The next number is aborted if a committed one past its snapshot conflicts with it.
unfoldable pub book : RuleMeaning → (ℕ → Intention) → ℕ → ℕ → Bool
book r it zero j = false
book r it (suc k) j =
    cond (nat_le j k) (book r it k j)
    (not (exists (λ e. nat_lt (it (suc k)).snapshot e && (book r it k e && conflicts r (it e) (it (suc k)))) (suc k)))

unfoldable pub commits : RuleMeaning → (ℕ → Intention) → ℕ → Bool
commits r it k = book r it k k

abbrev pub decided : Bool → Verdict
decided true = Committed
decided false = Aborted
