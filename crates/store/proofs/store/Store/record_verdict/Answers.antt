use Rattle.std.proofs.Common.{ℕ, ◌-◌, List, get_or, set, vec_items, ap, ◌∙◌, arith}
use Rattle.model.specs.Book.{decided}
use Rattle.model.specs.State.{Row, no_row}
use Rattle.store.specs.Views.{view, rows_of}
use Rattle.store.proofs.Reading.{row_count, row_read, row_write}
use Rattle.store.proofs.store.Store.record_verdict.Goals as goal

pub returns : goal.returns
returns c =
    let s = c.args.self.now in
    let v = s.rows in
    let i = c.from.result in
    let decided_at : ℕ → List Row = λ k. set (rows_of (vec_items v)) (k - 1) (record { intention = (get_or (rows_of (vec_items v)) (k - 1) no_row).intention; verdict = decided c.args.commits }) in
    let was = row_read (vec_items v) (i - 1) c.index_mut-row.result.now (omega (arith, row_count v, v.ok.0, c.from.ensures, c.requires)) c.index_mut-row.ensures.value in
    let is = c.decide.ensures ∙ ap (λ (r : Row). record { intention = r.intention; verdict = decided c.args.commits }) was in
    ap (λ (rs : List Row). record { rows = rs; assigned = s.assigned; finished = s.finished; workers = (view s).workers; marks = s.marks; joints = s.lasts.joints; plains = s.lasts.plains }) (row_write (vec_items v) (i - 1) c.decide.new.self _ is ∙ ap decided_at c.from.ensures)
