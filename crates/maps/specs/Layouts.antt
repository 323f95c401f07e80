-- What the two maps mean, and what making and loading one answers. Assumes nothing.
use Rattle.std.specs.Prelude.{ℕ, ◌+◌, ◌%◌, cond, not, List, length, Ok, Result, ◌==◌, nat_le, nat_lt, slice_index}
use Rattle.std.specs.List.{prefix_len}
use Rattle.terms.specs.Maps.{MapMeaning}
use Rattle.terms.specs.Numbers.{within}
use Rattle.terms.specs.Refusals.{refuse}
use Rattle.maps.specs.declared.fault.MapFault.{MapFault}
use Rattle.maps.specs.declared.fault.MapFault.TheVariants.{PartitionCount, TableLength, Entry}

-- what is said of the cells 0 to 1,023, and 0 of every other number
abbrev pub on_cells : (ℕ → ℕ) → ℕ → ℕ
on_cells p cell = cond (nat_le cell 1023) (p cell) 0

-- cells go round the n partitions in turn
abbrev pub residues : ℕ → MapMeaning
residues n = record { partitions = n; partition = on_cells (λ cell. 1 + cell % n) }

-- the table has each cell's partition
abbrev pub listed : ℕ → List ℕ → MapMeaning
listed n table = record { partitions = n; partition = on_cells (λ cell. slice_index table cell) }

-- a residue map is made with the n it is given, if n is 1 to 15
abbrev pub make_answer : ℕ → Result ℕ MapFault
make_answer n = refuse (not (within 1 15 n)) (PartitionCount n) (Ok n)

-- how many entries at the table's front are 1 to n: the index of the first that is not
abbrev pub good_entries_of : ℕ → List ℕ → ℕ
good_entries_of n table = prefix_len (within 1 n) table

-- a table is taken with its n if n is 1 to 15 and there are 1,024 entries, all of them 1 to n
abbrev pub load_answer : ℕ → List ℕ → Result (Unit {0}) MapFault
load_answer n table =
    refuse (not (within 1 15 n)) (PartitionCount n)
    (refuse (not (length table == 1024)) (TableLength (length table))
    (refuse (nat_lt (good_entries_of n table) 1024) (Entry (good_entries_of n table))
    (Ok tt)))
