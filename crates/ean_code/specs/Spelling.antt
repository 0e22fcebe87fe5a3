-- The GTIN of a symbol, and what reading it gives.
use Rattle.std.specs.Prelude.{◌≡◌, ℕ, List, [], ◌∷◌, ◌++◌}
use Rattle.digits_core.specs.Digits.{IsChecked}
use Rattle.digits_core.specs.Upce.{IsFirstUpceOf}
use Rattle.ean_code.specs.declared.kind.Kind.{Kind}
use Rattle.ean_code.specs.Symbols.{IsNumberSymbol, structure_of}
use Rattle.ean_code.specs.declared.kind.Kind.TheVariants.{UpcE}
use Rattle.ean_code.specs.declared.reading.Spelled.{Spelled}
use Rattle.ean_code.specs.declared.reading.Spelled.TheVariants.{NoPattern, BadCheck, Found}

-- what a symbol's digits stand for, a GTIN if the check digit is right; UPC-E digits are expanded to a GTIN-12
abbrev pub gtin_of : Kind → List ℕ → List ℕ
gtin_of kind digits = (structure_of kind).gtin digits

-- the digits of a symbol of this kind stand for this GTIN, if it is checked
abbrev pub IsGtinOf : Kind → List ℕ → List ℕ → Type 0
IsGtinOf kind digits gtin = gtin ≡ gtin_of kind digits

-- the result of reading: no symbol, a symbol whose digits are no GTIN, or the GTIN
abbrev pub IsSpelled : Kind → List ℕ → Spelled → Type 0
IsSpelled kind modules NoPattern = (digits : List ℕ) → IsNumberSymbol kind modules digits → ⊥
IsSpelled kind modules BadCheck =
    (digits : List ℕ) × IsNumberSymbol kind modules digits × ((gtin : List ℕ) → IsGtinOf kind digits gtin → IsChecked gtin → ⊥)
IsSpelled kind modules (Found gtin) =
    (digits : List ℕ) × IsNumberSymbol kind modules digits × IsGtinOf kind digits gtin × IsChecked gtin

-- the modules are a symbol of this kind whose digits stand for this GTIN
abbrev pub IsGtinSymbol : Kind → List ℕ → List ℕ → Type 0
IsGtinSymbol kind gtin modules = (digits : List ℕ) × IsNumberSymbol kind modules digits × IsGtinOf kind digits gtin

-- no symbol of this kind stands for this GTIN
abbrev pub HasNoSymbol : Kind → List ℕ → Type 0
HasNoSymbol kind gtin = (modules : List ℕ) → IsGtinSymbol kind gtin modules → ⊥

-- the modules are the UPC-E of this GTIN that is printed: by the first line of the zero-suppression table that has it
abbrev pub IsPrintedUpce : List ℕ → List ℕ → Type 0
IsPrintedUpce gtin modules = (six : List ℕ) × (check : ℕ) × IsFirstUpceOf six check gtin × IsNumberSymbol UpcE modules (six ++ check ∷ [])
