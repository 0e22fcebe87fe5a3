-- Laws about rows.
use Rattle.std.specs.Prelude.{None, Some, ◌≡◌, ◌≢◌, ◌<◌, ◌≤◌, ◌↔◌, ℕ, Bool, List, length, reverse, sum, slice_index, slice_set}
use Rattle.digits_core.specs.Digits.{AreDigits, IsChecked}
use Rattle.ean_code.specs.Spelling.{IsGtinOf}
use Rattle.ean_code.specs.declared.kind.Kind.{Kind}
use Rattle.ean_code.specs.Symbols.{IsCheckedPlace, digit_count, widths_of}
use Rattle.element_core.specs.declared.fault.ElementFault.TheVariants.{TooLong}
use Rattle.code128_code.specs.Symbols.{IsCode128Symbol, characters_of, mod103}
use Rattle.code128_code.specs.declared.fault.Code128Fault.TheVariants.{CheckCharacter}
use Rattle.scan_core.specs.declared.carrier.Carrier.{Carrier}
use Rattle.scan_core.specs.declared.carrier.Carrier.TheVariants.{Gs1128}
use Rattle.scan_core.specs.declared.fault.RowFault.TheVariants.{SymbolCheckDigit, Code128, Elements}
use Rattle.scan_core.specs.declared.answer.Answer.{Answer}
use Rattle.scan_core.specs.declared.answer.Answer.TheVariants.{Refused}
use Rattle.scan_core.specs.Row.{IsRow, dots_of, runs_fault}
use Rattle.scan_core.specs.Showing.{HasSize, IsSymbol, Shows, Way, kind_of}
use Rattle.element_core.specs.Terms.{Terms}
use Rattle.scan_core.specs.Answers.{IsAnswer}

-- a row shows at most one symbol, and reads as it in one way
abbrev pub OneSymbol : Type 0
OneSymbol =
    (runs : List ℕ) (c d : Carrier) (v w : Way) (modules others : List ℕ)
    → IsRow runs
    → Shows runs c v modules
    → Shows runs d w others
    → (c ≡ d) × (v ≡ w) × (modules ≡ others)

-- a row has at most one answer
abbrev pub OneAnswer : Type 0
OneAnswer =
    (runs : List ℕ) (year : Terms) (x y : Answer) → IsRow runs → IsAnswer runs year x → IsAnswer runs year y → x ≡ y

-- a row turned end for end has the same answer, be it elements or a refusal
abbrev pub TurnedRow : Type 0
TurnedRow =
    (runs : List ℕ) (year : Terms) (answer : Answer) → IsRow runs → IsAnswer runs year answer → IsAnswer (reverse runs) year answer

-- a row that shows a number's symbol with one character at a checked place replaced by another of its number set is refused for its check digit
abbrev pub ReplacementIsNoticed : Type 0
ReplacementIsNoticed =
    (carrier : Carrier) (kind : Kind) (digits gtin runs : List ℕ) (k d : ℕ) (year : Terms) (way : Way)
    → IsRow runs
    → kind_of carrier ≡ Some kind
    → length digits ≡ digit_count kind
    → AreDigits digits
    → IsGtinOf kind digits gtin
    → IsChecked gtin
    → IsCheckedPlace kind k
    → d < 10
    → d ≢ slice_index digits k
    → Shows runs carrier way (widths_of kind (slice_set digits k d))
    → IsAnswer runs year (Refused SymbolCheckDigit)

-- a row that shows a Code 128 symbol whose check character was right, with one start, data or check character replaced by another, is refused for
-- its check character
abbrev pub ReplacedCharacterIsNoticed : Type 0
ReplacedCharacterIsNoticed =
    (start other last k v : ℕ) (year : Terms) (values others modules replaced runs : List ℕ) (way : Way)
    → IsRow runs
    → IsCode128Symbol start values (mod103 start values) modules
    → IsCode128Symbol other others last replaced
    → k < length (characters_of start values (mod103 start values))
    → v ≢ slice_index (characters_of start values (mod103 start values)) k
    → characters_of other others last ≡ slice_set (characters_of start values (mod103 start values)) k v
    → Shows runs Gs1128 way replaced
    → IsAnswer runs year (Refused (Code128 CheckCharacter))

-- no row is refused for the length of its text
abbrev pub NeverTooLong : Type 0
NeverTooLong = (runs : List ℕ) (year : Terms) → IsAnswer runs year (Refused (Elements TooLong)) → ⊥

-- a symbol of a carrier has as many widths and modules as the carrier says
abbrev pub SymbolMeasures : Type 0
SymbolMeasures = (carrier : Carrier) (modules : List ℕ) → IsSymbol (kind_of carrier) modules → HasSize (kind_of carrier) (length modules) (sum modules)

-- widths are a row exactly if they have no fault
abbrev pub RowOrFault : Type 0
RowOrFault = (widths : List ℕ) → IsRow widths ↔ (runs_fault widths ≡ None)

-- a row's dots determine its runs
abbrev pub DotsDetermine : Type 0
DotsDetermine = (a b : List ℕ) → IsRow a → IsRow b → dots_of a ≡ dots_of b → a ≡ b

-- dots, at most 65,535, are those of a row
abbrev pub DotsMakeRow : Type 0
DotsMakeRow = (dots : List Bool) → length dots ≤ 65535 → (runs : List ℕ) × IsRow runs × (dots_of runs ≡ dots)

-- a row turned end for end has its dots in reverse
abbrev pub TurnedDots : Type 0
TurnedDots = (runs : List ℕ) → IsRow runs → dots_of (reverse runs) ≡ reverse (dots_of runs)
