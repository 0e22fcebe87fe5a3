-- Laws: labels can be printed in only one way.
use Rattle.std.specs.Prelude.{◌≡◌, ◌<◌, ℕ, List}
use Rattle.std.specs.List.{AllByRecursion}
use Rattle.sheet_core.specs.declared.label.Label.{Label}
use Rattle.sheet_core.specs.Bitmaps.{Bitmap, IsBitmap, dot_of}
use Rattle.sheet_core.specs.Drawing.{ArePrinted}
use Rattle.sheet_core.specs.Grids.{Cells}
use Rattle.sheet_core.specs.pbm.Images.{pbm_of}

-- each number is a byte
abbrev pub AreBytes : List ℕ → Type 0
AreBytes numbers = AllByRecursion (λ n. n < 256) numbers

-- width, height and dots determine the bytes of a bitmap
abbrev pub OneBitmap : Type 0
OneBitmap =
    (s t : Bitmap) → IsBitmap s → IsBitmap t → AreBytes s.bytes → AreBytes t.bytes
    → s.width ≡ t.width
    → s.height ≡ t.height
    → ((x y : ℕ) → x < s.width → y < s.height → dot_of s x y ≡ dot_of t x y)
    → s ≡ t

-- labels and a grid determine the printed sheets, as bytes
abbrev pub OnePrinted : Type 0
OnePrinted =
    (labels : List Label) (g : Cells) (sheets others : List Bitmap)
    → ArePrinted labels g sheets
    → ArePrinted labels g others
    → AreBytes (pbm_of sheets)
    → AreBytes (pbm_of others)
    → sheets ≡ others
