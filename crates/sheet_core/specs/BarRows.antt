-- Rows through the bars of printed labels, and their answers.
use Rattle.std.specs.Prelude.{◌≡◌, ℕ, ◌+◌, ◌*◌, ◌<◌, List, Some, slice_get, true}
use Rattle.element_core.specs.Elements.{Entry}
use Rattle.scan_core.specs.Row.{IsRow, dots_of}
use Rattle.scan_core.specs.declared.answer.Answer.{Answer}
use Rattle.scan_core.specs.declared.answer.Answer.TheVariants.{Read}
use Rattle.sheet_core.specs.Bitmaps.{Bitmap, cell_dots}
use Rattle.sheet_core.specs.Drawing.{cell_count, is_bar_row}
use Rattle.sheet_core.specs.Grids.{Cells}
use Rattle.sheet_core.specs.Labels.{carrier_of}
use Rattle.element_core.specs.Terms.{Terms}
use Rattle.sheet_core.specs.declared.label.Label.{Label}

-- a row through the bars of this label's cell, on a sheet of these labels
pub record IsBarRow (labels : List Label) (g : Cells) (sheets : List Bitmap) (label : Label) (row : List ℕ) : Type 0 where
  pub sheet : ℕ
  pub cell : ℕ
  pub y : ℕ
  pub bitmap : Bitmap
  pub sheet_is : slice_get sheets sheet ≡ Some bitmap
  pub cell_is : cell < cell_count g
  pub label_is : slice_get labels (sheet * cell_count g + cell) ≡ Some label
  pub through_bars : is_bar_row g y ≡ true
  pub row_is : IsRow row
  pub dots : dots_of row ≡ cell_dots g bitmap cell y

-- the answer of a label: its carrier, and the elements of its text in a reference year
abbrev pub label_answer : Label → Terms → List Entry → Answer
label_answer label year list = Read (carrier_of label) (record { year = year; list = list })
