-- A sheet as lines, one for each row of cells.
use Rattle.std.specs.Prelude.{◌≡◌, ℕ, ◌-◌, ◌*◌, ◌/◌, ◌%◌, ◌++◌, Bool, false, Option, Some, None, List, length, replicate, slice_get, drop, take}
use Rattle.std.specs.List.{concat}
use Rattle.scan_core.specs.Bits.{dot_at}
use Rattle.sheet_core.specs.Bitmaps.{stride}
use Rattle.sheet_core.specs.Drawing.{bar_dot}
use Rattle.sheet_core.specs.Grids.{Cells}
use Rattle.sheet_core.specs.Labels.{Drawn}

-- dot x of a bar row of a cell, or of a cell without a label
abbrev pub line_dot_of : Cells → Option Drawn → ℕ → Bool
line_dot_of g None x = false
line_dot_of g (Some s) x = bar_dot g s x

-- dot x of a bar row of cells side by side
abbrev pub line_dot : Cells → List Drawn → ℕ → Bool
line_dot g symbols x = line_dot_of g (slice_get symbols (x / g.width)) (x % g.width)

-- the bytes of a bar row of cells side by side, light past the last of them
pub record IsBarLine (g : Cells) (symbols : List Drawn) (line : List ℕ) : Type 0 where
  pub long : length line ≡ stride (g.columns * g.width)
  pub dots : (x : ℕ) → dot_at line x ≡ line_dot g symbols x

-- the bytes repeated n times
abbrev pub repeated_bytes : ℕ → List ℕ → List ℕ
repeated_bytes count line = concat (replicate count line)

-- all bytes of a row of cells, from the line of its bars
abbrev pub band : Cells → List ℕ → List ℕ
band g line =
    let light : List ℕ = repeated_bytes g.dots (replicate (length line) 0) in light ++ (repeated_bytes (g.height - 2 * g.dots) line ++ light)

-- the bytes are those of a row of cells
abbrev pub IsBand : Cells → List Drawn → List ℕ → Type 0
IsBand g symbols bytes = (line : List ℕ) × IsBarLine g symbols line × (bytes ≡ band g line)

-- the labels of a row of cells
abbrev pub row_labels : {A : Type 0} → Cells → List A → ℕ → List A
row_labels g labels row = take g.columns (drop (row * g.columns) labels)
