-- The two layouts are within the laws of a cell map. The proofs stand here, where the laws of an impl can name them.
use Rattle.std.proofs.Common.{◌≡◌, ℕ, ◌≤◌, List, arith}
use Rattle.std.proofs.lemmas.Bool.Decides.{nat_tests}
use Rattle.std.proofs.lemmas.List.Sums.{prefix_len_passes}
use Rattle.terms.specs.Maps.{LawfulMap}
use Rattle.terms.specs.Numbers.{within}
use Rattle.maps.specs.Layouts.{residues, listed, good_entries_of}

-- a remainder by n is below n
pub residues_lawful : (n : ℕ) → 1 ≤ n → n ≤ 15 → LawfulMap (residues n)
residues_lawful n some few = record {
  some = some;
  few = few;
  first = λ cell h. grind (arith, nat_tests);
  last = λ cell h. grind (arith, nat_tests);
  none = λ cell h. grind (arith, nat_tests);
}

-- a cell's entry is among the good ones, since all 1,024 are
pub listed_lawful : (n : ℕ) (table : List ℕ) → 1 ≤ n → n ≤ 15 → good_entries_of n table ≡ 1024 → LawfulMap (listed n table)
listed_lawful n table some few good = record {
  some = some;
  few = few;
  first = λ cell h. let e = prefix_len_passes (within 1 n) table cell 0 (omega arith) in grind (arith, nat_tests);
  last = λ cell h. let e = prefix_len_passes (within 1 n) table cell 0 (omega arith) in grind (arith, nat_tests);
  none = λ cell h. grind (arith, nat_tests);
}
