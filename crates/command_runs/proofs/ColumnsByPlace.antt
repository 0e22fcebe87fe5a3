-- The rows of a column and their answers, by the place of their cells: the laws `rows_by_place` and `answers_by_place`.
use Rattle.std.proofs.Common.{◌+◌, ◌*◌, ◌/◌, ◌<◌, ◌≡◌, ◌∙◌, List, Some, ap, length, map, refl, sym, ℕ}
use Rattle.std.specs.List.{flat_map, range_with_len, slice_get}
use Rattle.std.proofs.lemmas.List.{length-map}
use Rattle.std.proofs.lemmas.List.FromFn.{length-map-range_with_len, length-range_with_len}
use Rattle.std.proofs.lemmas.Option.{slice_get-map}
use Rattle.std.proofs.lemmas.Slice.Zip.{AllZip-long}
use Rattle.sheet_core.specs.Bitmaps.{Bitmap, cell_dots}
use Rattle.sheet_core.specs.Drawing.{cell_count, sheet_count}
use Rattle.sheet_core.specs.Grids.{Cells}
use Rattle.scan_core.specs.Row.{IsRow, dots_of}
use Rattle.command_runs.specs.Laws.{AnswersByPlace, RowsByPlace}
use Rattle.command_runs.specs.Columns.{HaveDots, column_cells, column_dots}
use Rattle.command_runs.specs.Printed.{cell_answer, sheet_answers}
use Rattle.command_runs.proofs.ListPlaces.{get_counting, piece_at, pieces_long}
use Rattle.command_runs.proofs.ListsBeside.{zip_at}

-- of what `f` makes of the cells of a column, the item of a row
cell_of_column : {A : Type 0} (f : ℕ → A) (g : Cells) (column row : ℕ) → row < g.rows → slice_get (map f (column_cells g column)) row
    ≡ Some (f (row * g.columns + column))
cell_of_column f g column row low =
    slice_get-map f (column_cells g column) row ∙ rw (slice_get-map (λ r. r * g.columns + column) (range_with_len 0 g.rows) row, get_counting g.rows row low)
    refl

-- a column has a cell in each row of the grid
pub cells_long : {A : Type 0} (f : ℕ → A) (g : Cells) (column : ℕ) → length (map f (column_cells g column)) ≡ g.rows
cells_long f g column = length-map (column_cells g column) f ∙ length-map-range_with_len (λ row. row * g.columns + column) 0 g.rows

pub answers_by_place : AnswersByPlace
answers_by_place g year labels column =
    let sheets = sheet_count g (length labels) in
    let each : (sheet : ℕ) → length (sheet_answers g year labels column sheet) ≡ g.rows = λ sheet. cells_long _ g column in
    let long = pieces_long (sheet_answers g year labels column) g.rows each (range_with_len 0 sheets) in (
      long ∙ ap (λ n. n * g.rows) (length-range_with_len 0 sheets),
      λ sheet row in_sheets in_rows.
          piece_at (sheet_answers g year labels column) g.rows each (range_with_len 0 sheets) sheet row sheet (get_counting sheets sheet in_sheets) in_rows
          ∙ cell_of_column (λ cell. cell_answer year (slice_get labels (sheet * cell_count g + cell))) g column row in_rows,
    )

-- rows that have the dots of a column, by the place of the cell
column_by_place : (g : Cells) (sheets : List Bitmap) (column : ℕ) (rows : List (List ℕ)) → HaveDots rows (flat_map (column_dots g column) sheets)
    → (length rows ≡ length sheets * g.rows)
    × ((sheet row : ℕ) (s : Bitmap) → slice_get sheets sheet ≡ Some s → row < g.rows
    → (runs : List ℕ) × (slice_get rows (sheet * g.rows + row) ≡ Some runs)
    × (IsRow runs × (dots_of runs ≡ cell_dots g s (row * g.columns + column) (g.height / 2))))
column_by_place g sheets column rows have =
    let each : (s : Bitmap) → length (column_dots g column s) ≡ g.rows = λ s. cells_long _ g column in
    let shown = flat_map (column_dots g column) sheets in (
      sym (AllZip-long _ rows shown have) ∙ pieces_long (column_dots g column) g.rows each sheets,
      λ sheet row s at in_rows.
          let placed = piece_at (column_dots g column) g.rows each sheets sheet row s at in_rows
          ∙ cell_of_column (λ cell. cell_dots g s cell (g.height / 2)) g column row in_rows in
          zip_at _ rows shown (sheet * g.rows + row) (cell_dots g s (row * g.columns + column) (g.height / 2)) have placed,
    )

pub rows_by_place : RowsByPlace
rows_by_place g sheets feeds column are in_columns =
    let here = zip_at (λ rows c. HaveDots rows (flat_map (column_dots g c) sheets)) feeds (range_with_len 0 g.columns) column column are
    (get_counting g.columns column in_columns) in
    let placed = column_by_place g sheets column here.0 here.2 in
    (here.0, here.1, placed.0, placed.1)
