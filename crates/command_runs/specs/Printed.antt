-- What a scan answers for the cells of printed labels (`printed.rt`).
use Rattle.std.specs.Prelude.{◌≡◌, ◌≤◌, ◌+◌, ◌*◌, ℕ, List, [], Ok, Option, Some, None, length, map, slice_get}
use Rattle.std.specs.List.{AllByRecursion, AllZip, flat_map, range_with_len}
use Rattle.element_core.specs.Elements.{IsElements}
use Rattle.scan_core.specs.Answers.{Reads}
use Rattle.scan_core.specs.declared.answer.Answer.{Answer}
use Rattle.scan_core.specs.declared.answer.Answer.TheVariants.{Refused}
use Rattle.scan_core.specs.declared.fault.RowFault.TheVariants.{Blank}
use Rattle.sheet_core.specs.BarRows.{label_answer}
use Rattle.sheet_core.specs.Bitmaps.{Bitmap}
use Rattle.sheet_core.specs.Drawing.{ArePrinted, cell_count, sheet_count}
use Rattle.sheet_core.specs.Grids.{Cells}
use Rattle.sheet_core.specs.Labels.{label_text}
use Rattle.sheet_core.specs.declared.label.Label.{Label}
use Rattle.sheet_core.specs.pbm.Images.{images_of, pbm_of}
use Rattle.command_runs.specs.answers.Reports.{report}
use Rattle.csv_records.specs.print.Labels.{label_list}
use Rattle.element_core.specs.Terms.{Terms}
use Rattle.command_runs.specs.Columns.{AreColumns, column_cells}

-- under this reference year the label's text says its elements
abbrev pub SaysElements : Terms → Label → Type 0
SaysElements year label = IsElements year (label_text label) (label_list label)

-- the answer of a cell: the carrier and the elements of its label, or that it is blank
abbrev pub cell_answer : Terms → Option Label → Answer
cell_answer year (Some label) = label_answer label year (label_list label)
cell_answer year None = Refused Blank

-- the answers of a column of a sheet, from the top; labels fill the cells in their order, sheet after sheet
abbrev pub sheet_answers : Cells → Terms → List Label → ℕ → ℕ → List Answer
sheet_answers g year labels column sheet = map (λ cell. cell_answer year (slice_get labels (sheet * cell_count g + cell))) (column_cells g column)

-- the answers of a column, sheet after sheet
abbrev pub column_answers : Cells → Terms → List Label → ℕ → List Answer
column_answers g year labels column = flat_map (sheet_answers g year labels column) (range_with_len 0 (sheet_count g (length labels)))

-- the answers of all columns
abbrev pub labels_answers : Cells → Terms → List Label → List (List Answer)
labels_answers g year labels = map (column_answers g year labels) (range_with_len 0 g.columns)

-- the report of labels: the answer of each cell, column by column
abbrev pub labels_report : Cells → Terms → List Label → List ℕ
labels_report g year labels = report (labels_answers g year labels)

-- ---- what a scan of sheets answers, and the laws of it

-- these are the answers of the columns of sheets
abbrev pub AreScanned : Cells → List Bitmap → Terms → List (List Answer) → Type 0
AreScanned g sheets year answers =
    (columns : List (List (List ℕ))) × AreColumns g sheets columns × AllZip (λ rows said. Reads rows year said) columns answers

-- the law `printed_answer`: a scan of printed sheets answers what their labels say
abbrev pub PrintedAnswer : Type 0
PrintedAnswer =
    (labels : List Label) (g : Cells) (sheets : List Bitmap) (year : Terms)
    → ArePrinted labels g sheets
    → AllByRecursion (SaysElements year) labels
    → AreScanned g sheets year (labels_answers g year labels)

-- the law `scanned_once`: a scan of sheets answers one list
abbrev pub ScannedOnce : Type 0
ScannedOnce = (g : Cells) (sheets : List Bitmap) (year : Terms) (x y : List (List Answer)) → AreScanned g sheets year x → AreScanned g sheets year y → x ≡ y

-- the law `written_answer`: printed sheets, at most 4,096 (as many as `images_of` takes), that are written as images and read again have the answers of their labels, and no others
abbrev pub WrittenAnswer : Type 0
WrittenAnswer =
    (labels : List Label) (g : Cells) (printed sheets : List Bitmap) (year : Terms) (answers : List (List Answer))
    → ArePrinted labels g printed
    → length printed ≤ 4096
    → AllByRecursion (SaysElements year) labels
    → images_of (pbm_of printed) ≡ (Ok sheets, [])
    → AreScanned g sheets year answers
    → answers ≡ labels_answers g year labels
