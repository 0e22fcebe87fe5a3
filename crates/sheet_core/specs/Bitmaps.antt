-- Sheets of dots as packed bytes: a bit for each dot, rows from the top, each padded to whole bytes.
use Rattle.std.specs.Prelude.{◌≡◌, ℕ, ◌+◌, ◌-◌, ◌*◌, ◌/◌, ◌%◌, ◌^◌, ◌<◌, ◌≤◌, Bool, List, length, slice_index}
use Rattle.scan_core.specs.Bits.{dot_at, dots_at}
use Rattle.sheet_core.specs.Grids.{Cells}

-- rows of bytes; the high bit of a byte is its leftmost dot
pub record Bitmap : Type 0 where
  pub width : ℕ
  pub height : ℕ
  pub bytes : List ℕ

-- the number of bytes in a row of n dots
abbrev pub stride : ℕ → ℕ
stride width = (width + 7) / 8

-- the number of padding bits in the last byte of a row
abbrev pub pad : ℕ → ℕ
pad width = 8 * stride width - width

-- 1 to 65,535 dots wide and high, with padding bits of 0
pub record IsBitmap (s : Bitmap) : Type 0 where
  pub width_least : 1 ≤ s.width
  pub width_most : s.width ≤ 65535
  pub height_least : 1 ≤ s.height
  pub height_most : s.height ≤ 65535
  pub count : length s.bytes ≡ stride s.width * s.height
  pub padded : (i : ℕ) → i < length s.bytes → (i + 1) % stride s.width ≡ 0 → slice_index s.bytes i % 2 ^ pad s.width ≡ 0

-- the index of dot (x, y) among all bits, counted from the top left
abbrev pub place : Bitmap → ℕ → ℕ → ℕ
place s x y = 8 * (stride s.width * y) + x

-- whether dot (x, y) is dark
abbrev pub dot_of : Bitmap → ℕ → ℕ → Bool
dot_of s x y = dot_at s.bytes (place s x y)

-- n dots of row y, from dot x on
abbrev pub dots_in : Bitmap → ℕ → ℕ → ℕ → List Bool
dots_in s x y count = dots_at s.bytes (place s x y) count

-- the dots of row y of a cell; cells are numbered row by row
abbrev pub cell_dots : Cells → Bitmap → ℕ → ℕ → List Bool
cell_dots g s cell y = dots_in s (cell % g.columns * g.width) (cell / g.columns * g.height + y) g.width
