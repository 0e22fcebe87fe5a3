-- What a row keeps.
use Rattle.std.specs.Prelude.{◌≡◌, ⊤, Bool, ℕ, List, Ok, Option, Some, None, true}
use Rattle.element_core.specs.Elements.{Entry, IsElements}
use Rattle.element_core.specs.Lines.{elements_text}
use Rattle.element_core.specs.Terms.{Terms}
use Rattle.element_core.specs.declared.form.Form.TheVariants as form
use Rattle.code128_code.specs.declared.symbol_values.Values.{Values}
use Rattle.scan_core.specs.Answers.{IsAnswer}
use Rattle.scan_core.specs.Reading.{IsFound}
use Rattle.scan_core.specs.Row.{IsRow}
use Rattle.scan_core.specs.inner.Reading.{text_in}
use Rattle.scan_core.specs.declared.answer.Answer.TheVariants as answer
use Rattle.scan_core.specs.declared.carrier.Carrier.{Carrier}
use Rattle.scan_core.specs.declared.found.Found.{Found}
use Rattle.scan_core.specs.declared.found.Found.TheVariants as found

-- the elements that the values of a symbol say under the reference year, in the human-readable form
abbrev pub AreElementsOf : Terms → Values → List ℕ → Type 0
AreElementsOf year values said =
    (text : List ℕ) × (list : List Entry) × (text_in values ≡ Ok text) × IsElements year text list × (said ≡ elements_text form.HumanReadable list)

-- the same of what was found, which are characters
abbrev pub AreElementsIn : Terms → Found → List ℕ → Type 0
AreElementsIn year (found.Number carrier gtin) said = ⊥
AreElementsIn year (found.Characters carrier values) said = AreElementsOf year values said
AreElementsIn year (found.Refused fault) said = ⊥

-- the same, if there is a year
abbrev pub AreElementsIf : Option Terms → Found → List ℕ → Type 0
AreElementsIf None found said = ⊤
AreElementsIf (Some year) found said = AreElementsIn year found said

-- the widths are a row, and what is kept beside them was found in it and is said there, if the row was read
abbrev pub IsRowWith : List ℕ → Bool → Found → Option Terms → List ℕ → Type 0
IsRowWith widths is_read found year said = IsRow widths × (is_read ≡ true → IsFound widths found × AreElementsIf year found said)

-- the row has a symbol of this carrier, whose elements these are
abbrev pub RowSays : List ℕ → Terms → Carrier → List ℕ → Type 0
RowSays runs year carrier said =
    (list : List Entry) × IsAnswer runs year (answer.Read carrier (record { year = year; list = list }))
    × (said ≡ elements_text form.HumanReadable list)
