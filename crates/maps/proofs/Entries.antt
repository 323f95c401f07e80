-- The first entry of a table that is no partition stands right behind the good ones.
use Rattle.std.proofs.Common.{◌≡◌, ℕ, List, refl, Bool, true, false, cond, not, length, None, arith}
use Rattle.std.specs.List.{position, position_or_len}
use Rattle.std.proofs.lemmas.Bool.Decides.{nat_tests}
use Rattle.std.proofs.lemmas.List.Sums.{prefix_len-le-length}
use Rattle.std.proofs.lemmas.List.Recursion.{is_position_or_len}
use Rattle.terms.specs.Numbers.{within}
use Rattle.maps.specs.Layouts.{good_entries_of}

-- a choice by a test is the other choice by its opposite
turned : (b : Bool) (x y : ℕ) → cond b x y ≡ cond (not b) y x
turned true x y = refl
turned false x y = refl

-- the count of good entries is the place of the first bad one, or the length
pub first_bad : (n : ℕ) (table : List ℕ) → good_entries_of n table ≡ position_or_len (λ p. not (within 1 n p)) table
first_bad n = is_position_or_len (good_entries_of n) (λ p. not (within 1 n p)) refl (λ x xs. turned (within 1 n x) _ _)

-- with no bad entry all are good
pub all_good : (n : ℕ) (table : List ℕ) → position (λ p. not (within 1 n p)) table ≡ None → good_entries_of n table ≡ length table
all_good n table e =
    let at = first_bad n table in
    let bound = prefix_len-le-length (within 1 n) table in
    grind (arith, nat_tests)
