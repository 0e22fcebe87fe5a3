-- Printed sheets: the dots of labels in their cells. Every row through the bars of a label's cell reads as the label's
-- elements.
use Rattle.std.specs.Prelude.{◌≡◌, ℕ, ◌+◌, ◌-◌, ◌*◌, ◌/◌, ◌%◌, ◌<◌, ◌&&◌, nat_lt, nat_le, Bool, true, false, Option, Some, None, List, length, map, take, slice_get, slice_index_or}
use Rattle.std.specs.List.{AllByRecursion, AllZip, range_with_len}
use Rattle.scan_core.specs.Row.{dots_from}
use Rattle.sheet_core.specs.declared.fault.PrintFault.{PrintFault}
use Rattle.sheet_core.specs.declared.fault.PrintFault.TheVariants.{Sheet, WriteFault}
use Rattle.sheet_core.specs.declared.fault.SheetFault.{SheetFault}
use Rattle.sheet_core.specs.declared.fault.SheetFault.TheVariants.{LabelKind, LabelWidth, NoMemory}
use Rattle.sheet_core.specs.declared.label.Label.{Label}
use Rattle.sheet_core.specs.Bitmaps.{Bitmap, IsBitmap, dot_of}
use Rattle.sheet_core.specs.Grids.{Cells, IsGrid}
use Rattle.sheet_core.specs.Labels.{Drawn, FitsCell, IsDrawn, IsPrintable}

-- whether module i of a symbol is in a bar; modules of spaces and beyond the symbol are light
abbrev pub is_bar : List ℕ → ℕ → Bool
is_bar modules i = slice_index_or (dots_from true modules) i false

-- dot x of a bar row of a cell: the symbol begins after its left quiet zone
abbrev pub bar_dot : Cells → Drawn → ℕ → Bool
bar_dot g s x = nat_le (s.quiet_left * g.dots) x && is_bar s.modules ((x - s.quiet_left * g.dots) / g.dots)

-- the dots of a bar row of a cell
abbrev pub bar_dots : Cells → Drawn → List Bool
bar_dots g s = map (bar_dot g s) (range_with_len 0 g.width)

-- the rows of a cell with bars: all except one module's height at the top and at the bottom
abbrev pub is_bar_row : Cells → ℕ → Bool
is_bar_row g y = nat_le g.dots y && nat_lt (y + g.dots) g.height

-- dot (x, y) of a cell; a cell without a label is light
abbrev pub cell_dot : Cells → Option Drawn → ℕ → ℕ → Bool
cell_dot g None x y = false
cell_dot g (Some s) x y = is_bar_row g y && bar_dot g s x

-- the cells of a sheet
abbrev pub cell_count : Cells → ℕ
cell_count g = g.columns * g.rows

-- the number of sheets for n labels
abbrev pub sheet_count : Cells → ℕ → ℕ
sheet_count g count = (count + (cell_count g - 1)) / cell_count g

-- the cell of dot (x, y) of a sheet; cells are numbered row by row
abbrev pub cell_over : Cells → ℕ → ℕ → ℕ
cell_over g x y = y / g.height * g.columns + x / g.width

-- dot (x, y) of a sheet; the labels fill the cells in order, sheet after sheet
abbrev pub dot : List Drawn → Cells → ℕ → ℕ → ℕ → Bool
dot symbols g sheet x y =
    cell_dot g (slice_get symbols (sheet * cell_count g + cell_over g x y)) (x % g.width) (y % g.height)

-- the bitmap is this sheet
pub record IsSheet (symbols : List Drawn) (g : Cells) (sheet : ℕ) (s : Bitmap) : Type 0 where
  pub width : s.width ≡ g.columns * g.width
  pub height : s.height ≡ g.rows * g.height
  pub bitmap : IsBitmap s
  pub dots : (x y : ℕ) → x < s.width → y < s.height → dot_of s x y ≡ dot symbols g sheet x y

-- these are all the sheets
pub record AreSheets (symbols : List Drawn) (g : Cells) (sheets : List Bitmap) : Type 0 where
  pub count : length sheets ≡ sheet_count g (length symbols)
  pub each : (i : ℕ) (s : Bitmap) → slice_get sheets i ≡ Some s → IsSheet symbols g i s

-- the sheets of these labels, each of which has a symbol that fits its cell
pub record ArePrinted (labels : List Label) (g : Cells) (sheets : List Bitmap) : Type 0 where
  pub grid : IsGrid g
  pub symbols : List Drawn
  pub drawn : AllZip IsDrawn labels symbols
  pub fit : AllByRecursion (FitsCell g) symbols
  pub shown : AreSheets symbols g sheets

-- why labels are not printed: the first label without a symbol or too wide for its cell
abbrev pub IsSheetFault : Cells → List Label → SheetFault → Type 0
IsSheetFault g labels (LabelKind i) =
    (label : Label)
    × (slice_get labels i ≡ Some label)
    × AllByRecursion (IsPrintable g) (take i labels)
    × ((s : Drawn) → IsDrawn label s → ⊥)
IsSheetFault g labels (LabelWidth i) =
    (label : Label) × (s : Drawn)
    × (slice_get labels i ≡ Some label)
    × AllByRecursion (IsPrintable g) (take i labels)
    × IsDrawn label s
    × (FitsCell g s → ⊥)
IsSheetFault g labels NoMemory = ⊥

-- why labels are not printed as images: the first label without a symbol or too wide for its cell; if there is none, a
-- refused allocation or a failed write
abbrev pub IsPrintFault : Cells → List Label → PrintFault → Type 0
IsPrintFault g labels (Sheet (LabelKind i)) = IsSheetFault g labels (LabelKind i)
IsPrintFault g labels (Sheet (LabelWidth i)) = IsSheetFault g labels (LabelWidth i)
IsPrintFault g labels (Sheet NoMemory) = AllByRecursion (IsPrintable g) labels
IsPrintFault g labels WriteFault = AllByRecursion (IsPrintable g) labels
