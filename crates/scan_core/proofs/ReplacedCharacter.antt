-- A symbol with one character replaced is a symbol with a wrong check digit or check character.
use Rattle.std.proofs.Common.{◌≡◌, ◌≢◌, ℕ, zero, suc, ◌<◌, ◌==◌, Bool, true, false, List, [], ◌∷◌, length, set, Some, Result, Err, refl, ◌∙◌, get_or, arith, if◌then◌else◌}
use Rattle.std.proofs.lemmas.Bool.Decides.{nat_tests}
use Rattle.std.specs.List.{AllByRecursion}
use Rattle.std.proofs.lemmas.List.{length-set}
use Rattle.digits_core.specs.Digits.{AreDigits, IsChecked}
use Rattle.ean_code.specs.declared.kind.Kind.{Kind}
use Rattle.ean_code.specs.Symbols.{IsCheckedPlace, IsNumberSymbol, digit_count, widths_of}
use Rattle.ean_code.specs.Spelling.{IsGtinOf, gtin_of}
use Rattle.ean_code.specs.Laws.{ReplacedDigitIsUnchecked}
use Rattle.code128_code.specs.Symbols.{mod103}
use Rattle.code128_code.specs.Texts.{gs1_text, set_of, symbol_text}
use Rattle.code128_code.specs.declared.fault.Code128Fault.{Code128Fault}
use Rattle.code128_code.specs.declared.fault.Code128Fault.TheVariants.{CheckCharacter}
use Rattle.scan_core.specs.declared.carrier.Carrier.{Carrier}
use Rattle.scan_core.specs.declared.fault.RowFault.TheVariants.{SymbolCheckDigit, Code128}
use Rattle.scan_core.specs.Showing.{kind_of}
use Rattle.scan_core.specs.Answers.{Spells, row_text}
use Rattle.scan_core.proofs.ContentFacts.{checked_wrong}

-- a digit put among digits
each-set : (P : ℕ → Type 0) (ds : List ℕ) (k d : ℕ) → AllByRecursion P ds → P d → AllByRecursion P (set ds k d)
each-set P [] k d each new = tt
each-set P (x ∷ ds) zero d each new = (new, each.1)
each-set P (x ∷ ds) (suc k) d each new = (each.0, each-set P ds k d each.1 new)

spells_of : (carrier : Carrier) (kind : Kind) (modules digits : List ℕ) → kind_of carrier ≡ Some kind → IsNumberSymbol kind modules digits
    → (IsChecked (gtin_of kind digits) → ⊥) → Spells (kind_of carrier) modules (Err SymbolCheckDigit)
spells_of carrier kind modules digits is symbol wrong = rw is (digits, symbol, checked_wrong (gtin_of kind digits) wrong)

pub replaced_spells : (carrier : Carrier) (kind : Kind) → kind_of carrier ≡ Some kind → ReplacedDigitIsUnchecked kind → (digits gtin : List ℕ) (k d : ℕ)
    → length digits ≡ digit_count kind → AreDigits digits → IsGtinOf kind digits gtin → IsChecked gtin
    → IsCheckedPlace kind k → d < 10 → d ≢ get_or digits k 0
    → Spells (kind_of carrier) (widths_of kind (set digits k d)) (Err SymbolCheckDigit)
replaced_spells carrier kind is law digits gtin k d count valid number checked place low other =
    let symbol : IsNumberSymbol kind (widths_of kind (set digits k d)) (set digits k d) = record {
      count = length-set digits k d ∙ count;
      valid = each-set (λ x. x < 10) digits k d valid low;
      widths = refl;
    } in
    spells_of carrier kind (widths_of kind (set digits k d)) (set digits k d) is symbol
    (law digits gtin (gtin_of kind (set digits k d)) k d count valid number checked place low other refl)

-- ---- Code 128

if_wrong : (right : Bool) (r : Result (List ℕ) Code128Fault) → right ≡ false
    → Err (Code128 CheckCharacter) ≡ row_text (if right then r else Err CheckCharacter)
if_wrong true r e = absurd cc
if_wrong false r e = refl

-- a symbol whose check character is wrong has that fault
pub wrong_character : (start : ℕ) (values : List ℕ) (check : ℕ) → check ≢ mod103 start values
    → Err (Code128 CheckCharacter) ≡ row_text (symbol_text start values check)
wrong_character start values check wrong =
    if_wrong (check == mod103 start values) (gs1_text (set_of start) values) (grind (arith, nat_tests, wrong))
