-- The symbols of single labels, for programs that draw them (GS1 General Specifications, sections 5.2 to 5.4).
use Rattle.std.specs.Prelude.{◌≡◌, ◌⊎◌, ◌++◌, ℕ, List, [], ◌∷◌, codes, drop}
use Rattle.std.specs.Fmt.{decimal}
use Rattle.digits_core.specs.Digits.{ascii_of}
use Rattle.digits_core.specs.Upce.{IsFirstUpceOf}
use Rattle.element_core.specs.Elements.{hri}
use Rattle.sheet_core.specs.Faults.{sheet_fault_text}
use Rattle.sheet_core.specs.Labels.{Drawn, IsDrawn}
use Rattle.sheet_core.specs.declared.fault.SheetFault.TheVariants.{LabelKind}
use Rattle.sheet_core.specs.declared.label.Label.{Label}
use Rattle.sheet_core.specs.declared.label.Label.TheVariants.{Ean13, UpcA, Ean8, UpcE, Itf14, Gs1128}
use Rattle.gs1_c.specs.Labels.{IsNumberSaid, kind_numbered}

-- the eight digits of the UPC-E of a GTIN that is printed: 0, six digits and the check digit
abbrev pub IsUpceUnder : List ℕ → List ℕ → Type 0
IsUpceUnder gtin text = (six : List ℕ) × (check : ℕ) × IsFirstUpceOf six check gtin × (text ≡ ascii_of (0 ∷ six ++ check ∷ []))

-- what stands under the bars, for people: the digits of the number as its kind writes them, or the elements with each AI in parentheses
abbrev pub IsUnderBars : Label → List ℕ → Type 0
IsUnderBars (Ean13 gtin) text = text ≡ ascii_of (drop 1 gtin)
IsUnderBars (UpcA gtin) text = text ≡ ascii_of (drop 2 gtin)
IsUnderBars (Ean8 gtin) text = text ≡ ascii_of (drop 6 gtin)
IsUnderBars (UpcE gtin) text = IsUpceUnder gtin text
IsUnderBars (Itf14 gtin) text = text ≡ ascii_of gtin
IsUnderBars (Gs1128 listing) text = text ≡ hri listing.list

-- what is drawn, in modules: the quiet zones left and right, and a digit for the width of each run, a bar first and last
abbrev pub drawn_text : Drawn → List ℕ
drawn_text s = decimal s.quiet_left ++ (32 ∷ decimal s.quiet_right ++ (32 ∷ ascii_of s.modules))

-- the line of a label's symbol, or the refusal of a label that has none
abbrev pub IsSymbolLineOf : Label → List ℕ → Type 0
IsSymbolLineOf label line =
    ((under : List ℕ) × (s : Drawn) × IsUnderBars label under × IsDrawn label s × (line ≡ codes "symbol " ++ (under ++ (32 ∷ drawn_text s))))
    ⊎ (((s : Drawn) → IsDrawn label s → ⊥) × (line ≡ sheet_fault_text (LabelKind 0)))

-- the same of the label that a text makes as the kind of this number
abbrev pub IsSymbolLineBy : ℕ → ℕ → List ℕ → List ℕ → Type 0
IsSymbolLineBy kind number text line = IsNumberSaid IsSymbolLineOf (kind_numbered kind) number text line
