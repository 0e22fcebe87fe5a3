-- The structure of the symbols that show a GTIN (ISO/IEC 15420 and 16390, symbol structure).
use Rattle.std.specs.Prelude.{ℕ, List}

-- how many digits, widths (of bars and spaces) and modules the symbols of a kind have; their widths at the start, of the
-- digits, and at the end; and what the digits stand for, a GTIN if the check digit is right
pub record Structure : Type 0 where
  pub digits : ℕ
  pub widths : ℕ
  pub modules : ℕ
  pub start : List ℕ
  pub inside : List ℕ → List ℕ
  pub stop : List ℕ
  pub gtin : List ℕ → List ℕ

-- the places, from 0, of the digits that are drawn as characters and checked: from `first` to before `after`
pub record CheckedPlaces : Type 0 where
  pub first : ℕ
  pub after : ℕ

-- a symbol that was printed: its digits and its widths
pub record Sample : Type 0 where
  pub digits : List ℕ
  pub widths : List ℕ
