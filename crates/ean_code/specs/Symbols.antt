-- The symbols of EAN, UPC and ITF-14 as lists of widths in modules, from a bar to a bar (ISO/IEC 15420 and 16390,
-- symbol structure).
use Rattle.std.specs.Prelude.{◌≡◌, ℕ, ◌<◌, ◌≤◌, List, ◌++◌, codes, length}
use Rattle.digits_core.specs.Digits.{AreDigits}
use Rattle.ean_code.specs.declared.kind.Kind.{Kind}
use Rattle.ean_code.specs.declared.kind.Kind.TheVariants.{Ean13, Ean8, UpcE, Itf14}
use Rattle.ean_code.specs.Structure.{CheckedPlaces, Sample, Structure}
use Rattle.ean_code.specs.symbologies.Ean13.{ean13, ean13_checked, ean13_sample}
use Rattle.ean_code.specs.symbologies.Ean8.{ean8, ean8_checked, ean8_sample}
use Rattle.ean_code.specs.symbologies.Itf14.{itf14, itf14_checked, itf14_sample}
use Rattle.ean_code.specs.symbologies.UpcE.{upce, upce_checked, upce_sample}

-- the structure of a kind's symbols
abbrev pub structure_of : Kind → Structure
structure_of Ean13 = ean13
structure_of Ean8 = ean8
structure_of UpcE = upce
structure_of Itf14 = itf14

-- the symbology identifier that a scanner sends before the text (GS1 General Specifications, section 5.1.3)
abbrev pub kind_identifier : Kind → List ℕ
kind_identifier Ean13 = codes "]E0"
kind_identifier Ean8 = codes "]E4"
kind_identifier UpcE = codes "]E0"
kind_identifier Itf14 = codes "]I1"

-- a printed symbol of each kind
abbrev pub sample_of : Kind → Sample
sample_of Ean13 = ean13_sample
sample_of Ean8 = ean8_sample
sample_of UpcE = upce_sample
sample_of Itf14 = itf14_sample

-- the number of digits, of widths (bars and spaces) and of modules of a symbol
abbrev pub digit_count : Kind → ℕ
digit_count kind = (structure_of kind).digits

abbrev pub width_count : Kind → ℕ
width_count kind = (structure_of kind).widths

abbrev pub module_count : Kind → ℕ
module_count kind = (structure_of kind).modules

-- the widths of the symbol that shows these digits
abbrev pub widths_of : Kind → List ℕ → List ℕ
widths_of kind ds = (structure_of kind).start ++ ((structure_of kind).inside ds ++ (structure_of kind).stop)

-- the modules are the symbol of this kind that shows these digits
pub record IsNumberSymbol (kind : Kind) (modules digits : List ℕ) : Type 0 where
  pub count : length digits ≡ digit_count kind
  pub valid : AreDigits digits
  pub widths : modules ≡ widths_of kind digits

-- the places, from 0, whose digits are drawn as characters and covered by the check digit
abbrev pub checked_of : Kind → CheckedPlaces
checked_of Ean13 = ean13_checked
checked_of Ean8 = ean8_checked
checked_of UpcE = upce_checked
checked_of Itf14 = itf14_checked

abbrev pub IsCheckedPlace : Kind → ℕ → Type 0
IsCheckedPlace kind k = ((checked_of kind).first ≤ k) × (k < (checked_of kind).after)
