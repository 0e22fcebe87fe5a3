-- The rows that images of sheets give, column by column (`columns.rt`).
use Rattle.std.specs.Prelude.{◌≡◌, ◌==◌, ◌&&◌, ◌+◌, ◌*◌, ◌/◌, ℕ, Bool, List, map}
use Rattle.std.specs.List.{AllZip, flat_map, list_all, range_with_len}
use Rattle.scan_core.specs.Row.{IsRow, dots_of}
use Rattle.sheet_core.specs.Bitmaps.{Bitmap, cell_dots}
use Rattle.sheet_core.specs.Grids.{Cells}

-- whether an image has the grid's size
abbrev pub has_size : Cells → Bitmap → Bool
has_size g s = (s.width == g.columns * g.width) && (s.height == g.rows * g.height)

-- whether each image has the grid's size
abbrev pub have_size : Cells → List Bitmap → Bool
have_size g sheets = list_all (has_size g) sheets

-- the cells of a column, from the top; cells count row by row
abbrev pub column_cells : Cells → ℕ → List ℕ
column_cells g column = map (λ row. row * g.columns + column) (range_with_len 0 g.rows)

-- the dots that a column of a sheet is read by: the middle row of each of its cells, from the top
abbrev pub column_dots : Cells → ℕ → Bitmap → List (List Bool)
column_dots g column s = map (λ cell. cell_dots g s cell (g.height / 2)) (column_cells g column)

-- rows that have these dots
abbrev pub HaveDots : List (List ℕ) → List (List Bool) → Type 0
HaveDots rows dots = AllZip (λ runs shown. IsRow runs × (dots_of runs ≡ shown)) rows dots

-- the rows of each column, sheet after sheet
abbrev pub AreColumns : Cells → List Bitmap → List (List (List ℕ)) → Type 0
AreColumns g sheets feeds = AllZip (λ rows column. HaveDots rows (flat_map (column_dots g column) sheets)) feeds (range_with_len 0 g.columns)
