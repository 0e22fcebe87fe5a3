-- What people read under a symbol (GS1 General Specifications, sections 4.14 and 5.2 to 5.4).
use Rattle.std.specs.Prelude.{◌≡◌, ◌++◌, ℕ, List, [], ◌∷◌, drop}
use Rattle.digits_core.specs.Digits.{ascii_of}
use Rattle.digits_core.specs.Upce.{IsFirstUpceOf}
use Rattle.element_core.specs.Elements.{hri}
use Rattle.sheet_core.specs.declared.label.Label.{Label}
use Rattle.sheet_core.specs.declared.label.Label.TheVariants.{Ean13, UpcA, Ean8, UpcE, Itf14, Gs1128}

-- the eight digits of the UPC-E of a GTIN that is printed: 0, six digits and the check digit
abbrev pub IsUpceReadUnder : List ℕ → List ℕ → Type 0
IsUpceReadUnder gtin text = (six : List ℕ) × (check : ℕ) × IsFirstUpceOf six check gtin × (text ≡ ascii_of (0 ∷ six ++ check ∷ []))

-- the digits of the number as its kind writes them, or the elements with each AI in parentheses
abbrev pub IsReadUnder : Label → List ℕ → Type 0
IsReadUnder (Ean13 gtin) text = text ≡ ascii_of (drop 1 gtin)
IsReadUnder (UpcA gtin) text = text ≡ ascii_of (drop 2 gtin)
IsReadUnder (Ean8 gtin) text = text ≡ ascii_of (drop 6 gtin)
IsReadUnder (UpcE gtin) text = IsUpceReadUnder gtin text
IsReadUnder (Itf14 gtin) text = text ≡ ascii_of gtin
IsReadUnder (Gs1128 listing) text = text ≡ hri listing.list
