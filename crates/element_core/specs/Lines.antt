-- The lines of answers.
use Rattle.std.specs.Prelude.{◌≡◌, ◌⊎◌, ◌<◌, ◌++◌, ℕ, List, [], ◌∷◌, Option, Some, None, codes}
use Rattle.std.specs.Fmt.{decimal}
use Rattle.digits_core.specs.Digits.{IsChecked, ascii_of, digits_of, padded}
use Rattle.digits_core.specs.Faults.{digit_fault_text}
use Rattle.digits_core.specs.Gtins.{gtin_fault}
use Rattle.digits_core.specs.Payloads.{payload_fault}
use Rattle.digits_core.specs.Refusals.{refusal_text}
use Rattle.digits_core.specs.declared.fault.DigitFault.{DigitFault}
use Rattle.element_core.specs.Elements.{Entry, FirstFault, IsElements, hri, pairs_text}
use Rattle.element_core.specs.Faults.{element_fault_text}
use Rattle.element_core.specs.Terms.{Terms}
use Rattle.element_core.specs.declared.fault.ElementFault.{ElementFault}
use Rattle.element_core.specs.declared.form.Form.{Form}
use Rattle.element_core.specs.declared.form.Form.TheVariants as form
use Rattle.element_core.specs.declared.line.Line.{Line}
use Rattle.element_core.specs.declared.line.Line.TheVariants as line

-- the bytes of a line: a word, a space and what is said, or a refusal
abbrev pub line_text : Line → List ℕ
line_text (line.Said word text) = word.now ++ (32 ∷ text.bytes)
line_text (line.Refused refusal) = refusal_text refusal.kind refusal.place

-- elements, in the human-readable form or as pairs
abbrev pub elements_text : Form → List Entry → List ℕ
elements_text form.HumanReadable = hri
elements_text form.Pairs = pairs_text

-- the line of a GTIN
abbrev pub line_of_gtin : List ℕ → List ℕ
line_of_gtin gtin = codes "gtin " ++ ascii_of gtin

-- the line of the digits of a GTIN by their fault: the GTIN in 14 digits, or why it is none
abbrev pub gtin_answer : List ℕ → Option DigitFault → List ℕ
gtin_answer text None = line_of_gtin (padded (digits_of text))
gtin_answer text (Some fault) = digit_fault_text fault

abbrev pub gtin_line : List ℕ → List ℕ
gtin_line text = gtin_answer text (gtin_fault text)

-- the line of digits that have no check digit yet, by their fault: the digit, or why they have none
abbrev pub IsDigitAnswer : List ℕ → Option DigitFault → List ℕ → Type 0
IsDigitAnswer text None line = (d : ℕ) × (d < 10) × IsChecked (digits_of text ++ d ∷ []) × (line ≡ codes "digit " ++ decimal d)
IsDigitAnswer text (Some fault) line = line ≡ digit_fault_text fault

abbrev pub IsDigitLine : List ℕ → List ℕ → Type 0
IsDigitLine text line = IsDigitAnswer text (payload_fault text) line

-- the line of an element string under a reference year: a word and what is said of its elements, or its first fault
abbrev pub IsElementsLine : List ℕ → (List Entry → List ℕ) → Terms → List ℕ → List ℕ → Type 0
IsElementsLine word said year text line =
    ((list : List Entry) × IsElements year text list × (line ≡ word ++ (32 ∷ said list)))
    ⊎ ((fault : ElementFault) × FirstFault year text fault × (line ≡ element_fault_text fault))
