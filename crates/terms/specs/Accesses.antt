-- An access by its two numbers. Assumes nothing.
use Rattle.std.specs.Prelude.{ℕ}
use Rattle.terms.specs.declared.access.Access.{Access}

abbrev pub access : ℕ → ℕ → Access
access m c = record { mode = m; cell = c }
