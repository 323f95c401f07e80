-- What an intention and a row of the log show: the model's. Assumes nothing.
use Rattle.std.specs.Prelude.{take}
use Rattle.model.specs.State.{Row}
use Rattle.model.specs.Words.{Intention as Meant}
use Rattle.rows.specs.declared.intention.Intention.{Intention}
use Rattle.rows.specs.declared.logrow.LogRow.{LogRow}

abbrev pub intention_of : Intention → Meant
intention_of x = record { snapshot = x.snapshot; accesses = take x.count x.accesses }

abbrev pub row_of : LogRow → Row
row_of r = record { intention = intention_of r.intention; verdict = r.verdict }
