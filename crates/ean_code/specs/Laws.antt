-- Laws about the symbols, whoever reads them.
use Rattle.std.specs.Prelude.{◌≡◌, ◌≢◌, ◌<◌, ℕ, List, length, reverse, slice_index, slice_set, sum}
use Rattle.digits_core.specs.Digits.{AreDigits, IsChecked}
use Rattle.ean_code.specs.declared.reading.Spelled.{Spelled}
use Rattle.ean_code.specs.Spelling.{IsGtinOf, IsSpelled, gtin_of}
use Rattle.ean_code.specs.declared.kind.Kind.{Kind}
use Rattle.ean_code.specs.Symbols.{IsCheckedPlace, IsNumberSymbol, digit_count, module_count, sample_of, width_count, widths_of}
use Rattle.ean_code.specs.declared.kind.Kind.TheVariants.{Itf14}
use Rattle.ean_code.specs.TwoOfFive.{AreTwoWidths}
use Rattle.ean_code.specs.Widths.{AreWidths}

-- the modules of a symbol determine its digits
abbrev pub OneListOfDigits : Type 0
OneListOfDigits = (kind : Kind) (modules ds es : List ℕ) → IsNumberSymbol kind modules ds → IsNumberSymbol kind modules es → ds ≡ es

-- a list of modules has only one reading
abbrev pub OneSpelled : Type 0
OneSpelled = (kind : Kind) (modules : List ℕ) (a b : Spelled) → IsSpelled kind modules a → IsSpelled kind modules b → a ≡ b

-- a symbol has as many widths and modules as its kind says, each width of 1 to 4 modules
pub record HasMeasuresOfKind (kind : Kind) (modules : List ℕ) : Type 0 where
  pub valid : AreWidths modules
  pub count : length modules ≡ width_count kind
  pub total : sum modules ≡ module_count kind

abbrev pub MeasuresOfKind : Type 0
MeasuresOfKind = (kind : Kind) (modules ds : List ℕ) → IsNumberSymbol kind modules ds → HasMeasuresOfKind kind modules

-- the digits of a symbol stand for a number of fourteen digits
abbrev pub EachGtinHasFourteen : Type 0
EachGtinHasFourteen = (kind : Kind) (ds : List ℕ) → length ds ≡ digit_count kind → length (gtin_of kind ds) ≡ 14

-- a symbol of this kind read backwards is no symbol of this kind
abbrev pub KindIsOneWay : Kind → Type 0
KindIsOneWay kind = (modules ds es : List ℕ) → IsNumberSymbol kind modules ds → IsNumberSymbol kind (reverse modules) es → ⊥

abbrev pub EachKindIsOneWay : Type 0
EachKindIsOneWay = (kind : Kind) → KindIsOneWay kind

-- if digits stand for a checked GTIN, replacing one at a checked place leaves digits that stand for none
abbrev pub ReplacedDigitIsUnchecked : Kind → Type 0
ReplacedDigitIsUnchecked kind =
    (digits gtin other : List ℕ) (k d : ℕ)
    → length digits ≡ digit_count kind
    → AreDigits digits
    → IsGtinOf kind digits gtin
    → IsChecked gtin
    → IsCheckedPlace kind k
    → d < 10
    → d ≢ slice_index digits k
    → IsGtinOf kind (slice_set digits k d) other
    → IsChecked other
    → ⊥

abbrev pub EachReplacedDigitIsUnchecked : Type 0
EachReplacedDigitIsUnchecked = (kind : Kind) → ReplacedDigitIsUnchecked kind

-- each symbology draws its printed symbol
abbrev pub EachPrinted : Type 0
EachPrinted = (kind : Kind) → widths_of kind (sample_of kind).digits ≡ (sample_of kind).widths

-- each element of an ITF-14 is narrow, of one module, or wide, of three
abbrev pub TwoWidths : Type 0
TwoWidths = (modules ds : List ℕ) → IsNumberSymbol Itf14 modules ds → AreTwoWidths modules
