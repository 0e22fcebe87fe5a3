-- Laws about printed sheets and PBM files.
use Rattle.std.specs.Prelude.{◌≡◌, ◌↔◌, ℕ, ◌+◌, ◌*◌, ◌<◌, ◌≤◌, List, [], ◌++◌, length, Err, Ok, Some, slice_get}
use Rattle.std.specs.List.{AllByRecursion}
use Rattle.element_core.specs.Elements.{Entry, IsElements}
use Rattle.scan_core.specs.Answers.{IsAnswer}
use Rattle.scan_core.specs.declared.answer.Answer.{Answer}
use Rattle.scan_core.specs.declared.answer.Answer.TheVariants.{Refused}
use Rattle.scan_core.specs.declared.fault.RowFault.TheVariants.{Blank}
use Rattle.scan_core.specs.Row.{IsRow, dots_of}
use Rattle.scan_core.specs.Showing.{Shows}
use Rattle.scan_core.specs.Showing.Way.{Forwards}
use Rattle.sheet_core.specs.declared.fault.PbmFault.{PbmFault}
use Rattle.sheet_core.specs.declared.pbm.state.Size.{Size}
use Rattle.sheet_core.specs.declared.label.Label.{Label}
use Rattle.sheet_core.specs.BarRows.{IsBarRow, label_answer}
use Rattle.sheet_core.specs.Bitmaps.{Bitmap, IsBitmap, cell_dots}
use Rattle.sheet_core.specs.Drawing.{ArePrinted, bar_dots, cell_count}
use Rattle.sheet_core.specs.Grids.{Cells, IsGrid}
use Rattle.sheet_core.specs.Labels.{Drawn, FitsCell, IsDrawn, IsLabelSymbol, carrier_of, label_text}
use Rattle.sheet_core.specs.pbm.Grammar.{IsHeader, IsPbm}
use Rattle.sheet_core.specs.pbm.Headers.{header_of}
use Rattle.sheet_core.specs.pbm.Images.{images_of, pbm_of}
use Rattle.element_core.specs.Terms.{Terms}
use Rattle.sheet_core.specs.pbm.Refusals.{RefusesFile, RefusesHeader}

-- a label determines the symbol that is drawn for it, with its quiet zones
abbrev pub OneDrawn : Type 0
OneDrawn = (label : Label) (s t : Drawn) → IsDrawn label s → IsDrawn label t → s ≡ t

-- each row through the bars of a printed label's cell shows the label's symbol, from left to right
abbrev pub BarRowsShow : Type 0
BarRowsShow =
    (labels : List Label) (g : Cells) (sheets : List Bitmap) (label : Label) (row : List ℕ)
    → ArePrinted labels g sheets
    → IsBarRow labels g sheets label row
    → (modules : List ℕ) × IsLabelSymbol label modules × Shows row (carrier_of label) Forwards modules

-- if the label's text has these elements in a reference year, each row through the bars of its cell reads as the
-- label's carrier with these elements, and as nothing else
abbrev pub BarRowsAnswer : Type 0
BarRowsAnswer =
    (labels : List Label) (g : Cells) (sheets : List Bitmap) (label : Label) (row : List ℕ) (year : Terms) (list : List Entry) (said : Answer)
    → ArePrinted labels g sheets
    → IsBarRow labels g sheets label row
    → IsElements year (label_text label) list
    → IsAnswer row year said ↔ (said ≡ label_answer label year list)

-- the same for every row with the dots drawn for a label, on any sheet
abbrev pub DrawnIsRead : Type 0
DrawnIsRead =
    (g : Cells) (label : Label) (s : Drawn) (row : List ℕ) (year : Terms) (list : List Entry) (said : Answer)
    → IsGrid g
    → IsDrawn label s
    → FitsCell g s
    → IsRow row
    → dots_of row ≡ bar_dots g s
    → IsElements year (label_text label) list
    → IsAnswer row year said ↔ (said ≡ label_answer label year list)

-- each row of a printed cell without a label is refused as blank
abbrev pub EmptyCellsAreBlank : Type 0
EmptyCellsAreBlank =
    (labels : List Label) (g : Cells) (sheets : List Bitmap) (i cell y : ℕ) (sheet : Bitmap) (runs : List ℕ) (year : Terms)
    → ArePrinted labels g sheets
    → slice_get sheets i ≡ Some sheet
    → cell < cell_count g
    → y < g.height
    → length labels ≤ i * cell_count g + cell
    → dots_of runs ≡ cell_dots g sheet cell y
    → IsAnswer runs year (Refused Blank)

-- up to 4,096 sheets that are written read back as the same sheets
abbrev pub WrittenIsRead : Type 0
WrittenIsRead = (sheets : List Bitmap) → AllByRecursion IsBitmap sheets → length sheets ≤ 4096 → images_of (pbm_of sheets) ≡ (Ok sheets, [])

-- up to 4,096 printed sheets that are written read back as the same sheets
abbrev pub PrintedIsRead : Type 0
PrintedIsRead =
    (labels : List Label) (g : Cells) (sheets : List Bitmap)
    → ArePrinted labels g sheets → length sheets ≤ 4096 → images_of (pbm_of sheets) ≡ (Ok sheets, [])

-- the reader accepts a header, whatever follows it, exactly if it has the grammar of one and at most 4,096 bytes
abbrev pub HeadersAreRead : Type 0
HeadersAreRead =
    (bytes : List ℕ) (size : Size)
    → ((rest : List ℕ) → header_of (bytes ++ rest) ≡ (Ok size, rest)) ↔ (IsHeader bytes size × (length bytes ≤ 4096))

-- the reader accepts a file exactly if it has the grammar of one and at most 4,096 images
abbrev pub FilesAreRead : Type 0
FilesAreRead = (bytes : List ℕ) (sheets : List Bitmap) → (images_of bytes ≡ (Ok sheets, [])) ↔ (IsPbm bytes sheets × (length sheets ≤ 4096))

-- the reader refuses a header at a byte for a reason exactly if the grammar does
abbrev pub HeadersAreRefused : Type 0
HeadersAreRefused = (fault : PbmFault) (bytes : List ℕ) → (header_of bytes ≡ (Err fault, [])) ↔ RefusesHeader fault bytes

-- the same for a file
abbrev pub FilesAreRefused : Type 0
FilesAreRefused = (fault : PbmFault) (bytes : List ℕ) → (images_of bytes ≡ (Err fault, [])) ↔ RefusesFile fault bytes

-- a file of at most 4,096 images shows one list of sheets
abbrev pub OneListOfSheets : Type 0
OneListOfSheets = (bytes : List ℕ) (sheets others : List Bitmap) → length sheets ≤ 4096 → length others ≤ 4096 → IsPbm bytes sheets → IsPbm bytes others
    → sheets ≡ others
