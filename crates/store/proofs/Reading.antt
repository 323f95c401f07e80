-- The rows of a store, read and written at one number, and a store when it is made.
use Rattle.std.proofs.Common.{◌≡◌, ℕ, ◌<◌, true, List, length, get_or, set, vec_items, vec_len, sum_by, Vec, sym, ap, ◌∙◌}
use Rattle.std.proofs.lemmas.List.{length-map, get_or-map, map-set}
use Rattle.model.specs.Finding.{all}
use Rattle.model.specs.State.{Row, Worker, no_row, no_workers}
use Rattle.rows.specs.Views.{row_of}
use Rattle.rows.specs.declared.logrow.LogRow.{LogRow}
use Rattle.store.specs.Fits.{fits, order_count_of}
use Rattle.store.specs.Views.{rows_of}

pub row_count : {Z : Type 0} (v : Vec LogRow Z) → vec_len v ≡ length (rows_of (vec_items v))
row_count v = v.ok.0 ∙ sym (length-map (vec_items v) row_of)

pub row_read : (rows : List LogRow) (i : ℕ) (x : LogRow) → i < length rows → x ≡ get_or rows i x → row_of x ≡ get_or (rows_of rows) i no_row
row_read rows i x l e = sym (get_or-map row_of rows i x no_row l ∙ ap row_of (sym e))

pub row_write : (rows : List LogRow) (i : ℕ) (y : LogRow) (r : Row) → row_of y ≡ r → rows_of (set rows i y) ≡ set (rows_of rows) i r
row_write rows i y r e = map-set row_of rows i y ∙ ap (set (rows_of rows) i) e

-- ⟨ when it is made ⟩

pub fresh_fit : (n : ℕ) (ws : List Worker) → ws ≡ no_workers → all (fits n) ws ≡ true
unfolding all no_workers
fresh_fit n ws e = ap (all (fits n)) e

pub fresh_count : (ws : List Worker) → ws ≡ no_workers → sum_by order_count_of ws ≡ 0
unfolding no_workers
fresh_count ws e = ap (sum_by order_count_of) e
