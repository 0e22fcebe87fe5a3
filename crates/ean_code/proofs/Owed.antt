-- What each symbology owes.
use Rattle.std.proofs.Common.{◌≡◌, ℕ, List, length, sum, sym, subst}
use Rattle.ean_code.specs.Laws.{HasMeasuresOfKind, KindIsOneWay, ReplacedDigitIsUnchecked}
use Rattle.ean_code.specs.Spelling.{gtin_of}
use Rattle.ean_code.specs.Symbols.{IsNumberSymbol, digit_count, module_count, sample_of, width_count, widths_of}
use Rattle.ean_code.specs.declared.kind.Kind.{Kind}
use Rattle.ean_code.specs.Widths.{AreWidths}

pub record Owes (kind : Kind) : Type 0 where
  pub measures : (modules ds : List ℕ) → IsNumberSymbol kind modules ds → HasMeasuresOfKind kind modules
  -- the digits that modules show, if they show some
  pub shown : List ℕ → List ℕ
  pub shown_is : (modules ds : List ℕ) → IsNumberSymbol kind modules ds → shown modules ≡ ds
  pub fourteen : (ds : List ℕ) → length ds ≡ digit_count kind → length (gtin_of kind ds) ≡ 14
  pub one_way : KindIsOneWay kind
  pub replaced : ReplacedDigitIsUnchecked kind
  pub printed : widths_of kind (sample_of kind).digits ≡ (sample_of kind).widths

pub measured : (kind : Kind) (modules ds : List ℕ) → IsNumberSymbol kind modules ds → AreWidths (widths_of kind ds)
    → (length modules ≡ width_count kind) × (sum modules ≡ module_count kind) → HasMeasuresOfKind kind modules
measured kind modules ds e v m = record { valid = subst AreWidths (sym e.widths) v; count = m.0; total = m.1 }
