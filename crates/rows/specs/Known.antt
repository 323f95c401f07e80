-- Accesses that have a mark. Assumes nothing.
use Rattle.std.specs.Prelude.{Bool, ◌&&◌, nat_le, nat_lt}
use Rattle.terms.specs.declared.access.Access.{Access}

-- a mode below four, whatever the rule, at a cell up to 1,023
abbrev pub known : Access → Bool
known a = nat_lt a.mode 4 && nat_le a.cell 1023
