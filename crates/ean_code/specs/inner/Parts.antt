-- The parts of a symbol, as it is read.
use Rattle.std.specs.Prelude.{◌≡◌, ℕ, List, ◌++◌, length}
use Rattle.std.specs.List.{flat_map}
use Rattle.digits_core.specs.Digits.{AreAsciiDigits, AreDigits, digits_of}
use Rattle.ean_code.specs.declared.number_sets.Character.{Character}
use Rattle.ean_code.specs.inner.NumberSets.{AreCharacters}
use Rattle.ean_code.specs.NumberSets.{left_widths, right_part}
use Rattle.ean_code.specs.declared.kind.Kind.{Kind}
use Rattle.ean_code.specs.Symbols.{IsNumberSymbol}
use Rattle.ean_code.specs.Guards.{normal_guard, special_guard, centre_guard}
use Rattle.ean_code.specs.TwoOfFive.{itf_start, itf_stop}

-- the widths of a symbol with these left and right of its centre guard
abbrev pub two_halves : List ℕ → List ℕ → List ℕ
two_halves left right = normal_guard ++ ((left ++ (centre_guard ++ right)) ++ normal_guard)

-- the n widths left of the centre guard and the n right of it are these
pub record AreFramed (half : ℕ) (widths left right : List ℕ) : Type 0 where
  pub left_count : length left ≡ half
  pub right_count : length right ≡ half
  pub shown : widths ≡ two_halves left right

-- the 24 widths between the normal and the special guard are these
pub record AreFramedSix (widths six : List ℕ) : Type 0 where
  pub count : length six ≡ 24
  pub shown : widths ≡ normal_guard ++ (six ++ special_guard)

-- the 70 widths between start and stop of an ITF-14 are these
pub record AreFramedPairs (widths pairs : List ℕ) : Type 0 where
  pub count : length pairs ≡ 70
  pub shown : widths ≡ itf_start ++ (pairs ++ itf_stop)

-- n characters left of the centre guard and n digits right of it have these widths
pub record AreHalves (count : ℕ) (widths : List ℕ) (left : List Character) (right : List ℕ) : Type 0 where
  pub left_count : length left ≡ count
  pub right_count : length right ≡ count
  pub left_valid : AreCharacters left
  pub right_valid : AreDigits right
  pub shown : widths ≡ two_halves (flat_map left_widths left) (right_part right)

-- the six characters before the special guard have these widths
pub record AreSix (widths : List ℕ) (left : List Character) : Type 0 where
  pub count : length left ≡ 6
  pub valid : AreCharacters left
  pub shown : widths ≡ normal_guard ++ (flat_map left_widths left ++ special_guard)

-- the text is the ASCII digits of the symbol of this kind with these widths
abbrev pub IsTextOf : Kind → List ℕ → List ℕ → Type 0
IsTextOf kind widths text = AreAsciiDigits text × IsNumberSymbol kind widths (digits_of text)
