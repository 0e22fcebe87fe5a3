-- Laws about what the commands write and read (`laws.rt`).
use Rattle.std.specs.Prelude.{◌≡◌, ◌↔◌, ◌≤◌, ◌<◌, ◌+◌, ◌*◌, ◌/◌, ℕ, List, Some, length, slice_get}
use Rattle.scan_core.specs.declared.answer.Answer.{Answer}
use Rattle.scan_core.specs.Row.{IsRow, dots_of}
use Rattle.sheet_core.specs.Bitmaps.{Bitmap, cell_dots}
use Rattle.sheet_core.specs.Drawing.{cell_count, sheet_count}
use Rattle.sheet_core.specs.Grids.{Cells}
use Rattle.sheet_core.specs.declared.label.Label.{Label}
use Rattle.command_runs.specs.Grids.{cells_of}
use Rattle.csv_records.specs.print.Labels.{print_meaning}
use Rattle.command_runs.specs.commands.Prints.{IsPrint}
use Rattle.command_runs.specs.commands.Scans.{AreImages, IsScan}
use Rattle.command_line.specs.declared.commands.print.options.Output.TheVariants as output
use Rattle.command_line.specs.declared.commands.print.options.PrintOptions.{PrintOptions}
use Rattle.command_line.specs.declared.commands.scan.options.ScanOptions.{ScanOptions}
use Rattle.csv_records.specs.input.Records.{AreItems, Fields}
use Rattle.command_runs.specs.Columns.{AreColumns}
use Rattle.element_core.specs.Terms.{Terms}
use Rattle.command_runs.specs.Printed.{AreScanned, cell_answer, column_answers, labels_answers, labels_report}

-- what `print` writes of the labels of records as at most 4,096 images, the most that `images_of` takes, for a scan in the same grid and year
pub record IsPrintFor (scan : ScanOptions) (print : PrintOptions) (rows : List Fields) (labels : List Label) (bytes : List ℕ) : Type 0 where
  pub images : print.output ≡ output.Images
  pub same_grid : cells_of scan.grid ≡ cells_of print.grid
  pub same_year : scan.year ≡ print.year
  pub few : sheet_count (cells_of scan.grid) (length labels) ≤ 4096
  pub mean : AreItems (print_meaning print.year) rows labels
  pub printed : IsPrint print labels bytes

-- of that the scan answers for each cell the carrier and the elements of its label, or that it is blank
abbrev pub PrintedIsAnswered : Type 0
PrintedIsAnswered =
    (scan : ScanOptions) (print : PrintOptions) (rows : List Fields) (labels : List Label) (bytes : List ℕ)
    → IsPrintFor scan print rows labels bytes
    → (sheets : List Bitmap) (answers : List (List Answer))
    → AreImages scan bytes sheets
    → AreScanned (cells_of scan.grid) sheets scan.year answers
    → answers ≡ labels_answers (cells_of scan.grid) scan.year labels

-- so `scan` takes it, and what it writes is one text, the report of the labels
abbrev pub PrintedIsScanned : Type 0
PrintedIsScanned =
    (scan : ScanOptions) (print : PrintOptions) (rows : List Fields) (labels : List Label) (bytes : List ℕ)
    → IsPrintFor scan print rows labels bytes
    → (text : List ℕ) → IsScan scan bytes text ↔ (text ≡ labels_report (cells_of scan.grid) scan.year labels)

-- the answers of `PrintedIsAnswered` by place: a column has an answer for each row of cells of each sheet, that of the label which was printed in the cell
-- there, or that the cell is blank
abbrev pub AnswersByPlace : Type 0
AnswersByPlace =
    (g : Cells) (year : Terms) (labels : List Label) (column : ℕ)
    → (length (column_answers g year labels column) ≡ sheet_count g (length labels) * g.rows)
    × ((sheet row : ℕ) → sheet < sheet_count g (length labels) → row < g.rows
    → slice_get (column_answers g year labels column) (sheet * g.rows + row)
    ≡ Some (cell_answer year (slice_get labels (sheet * cell_count g + (row * g.columns + column)))))

-- the rows of a column by place: there is one for each row of cells of each sheet, and that of row r of sheet i has the dots of the middle row of the cell
-- there
abbrev pub RowsByPlace : Type 0
RowsByPlace =
    (g : Cells) (sheets : List Bitmap) (feeds : List (List (List ℕ))) (column : ℕ)
    → AreColumns g sheets feeds
    → column < g.columns
    → (rows : List (List ℕ)) × (slice_get feeds column ≡ Some rows) × (length rows ≡ length sheets * g.rows)
    × ((sheet row : ℕ) (s : Bitmap) → slice_get sheets sheet ≡ Some s → row < g.rows
    → (runs : List ℕ) × (slice_get rows (sheet * g.rows + row) ≡ Some runs)
    × (IsRow runs × (dots_of runs ≡ cell_dots g s (row * g.columns + column) (g.height / 2))))
