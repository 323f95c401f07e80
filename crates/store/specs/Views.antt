-- What a store shows: the model's state. Assumes nothing.
use Rattle.std.specs.Prelude.{List, map, vec_items}
use Rattle.model.specs.State.{Row, State}
use Rattle.rows.specs.Views.{row_of}
use Rattle.rows.specs.declared.logrow.LogRow.{LogRow}
use Rattle.workers.specs.Views.{workers_of}
use Rattle.store.specs.declared.store.Store.{Store}

abbrev pub rows_of : List LogRow → List Row
rows_of rows = map row_of rows

abbrev pub view : Store → State
view s = record {
  rows = rows_of (vec_items s.rows);
  assigned = s.assigned;
  finished = s.finished;
  workers = workers_of s.workers;
  marks = s.marks;
  joints = s.lasts.joints;
  plains = s.lasts.plains;
}
