-- Laws about records and the messages of scanners: src/laws.rt has a function for each.
use Rattle.std.specs.Prelude.{◌≡◌, ◌⊎◌, ◌++◌, ℕ, true, List, [], ◌∷◌, Some, codes, length}
use Rattle.digits_core.specs.Digits.{AreAsciiDigits}
use Rattle.digits_core.specs.Faults.{digit_fault_text}
use Rattle.digits_core.specs.declared.fault.DigitFault.{DigitFault}
use Rattle.element_core.specs.Elements.{gtin_entry}
use Rattle.element_core.specs.Lines.{elements_text, line_of_gtin}
use Rattle.element_core.specs.declared.form.Form.{Form}
use Rattle.message_core.specs.Heads.{is_message}
use Rattle.message_core.specs.Messages.{IsMessageLine}
use Rattle.csv_records.specs.check.Checks.{IsLineAs}
use Rattle.csv_records.specs.lanes.Widths.{field_fault}
use Rattle.csv_records.specs.declared.check.answer.CheckKind.TheVariants.{Upce}
use Rattle.element_core.specs.Terms.{Terms}
use Rattle.csv_records.specs.declared.input.fault.RecordFault.TheVariants.{BadRuns}

-- no message of a scanner is a row: as a field of widths it is refused with `BadRuns`
abbrev pub MessagesAreNoRows : Type 0
MessagesAreNoRows = (text : List ℕ) → is_message text ≡ true → field_fault text ≡ Some BadRuns

-- eight digits behind `]E0` have the GTIN, or the refusal, that `check` gives them as a UPC-E
abbrev pub UpceAsChecked : Type 0
UpceAsChecked = (f : Form) (year : Terms) (digits line said : List ℕ) → length digits ≡ 8 → AreAsciiDigits digits → IsLineAs year Upce digits line
    → IsMessageLine f year (codes "]E0" ++ digits) said
    → ((gtin : List ℕ) × (line ≡ line_of_gtin gtin) × (said ≡ codes "]E0 " ++ elements_text f (gtin_entry gtin ∷ [])))
    ⊎ ((fault : DigitFault) × (line ≡ digit_fault_text fault) × (said ≡ digit_fault_text fault))
