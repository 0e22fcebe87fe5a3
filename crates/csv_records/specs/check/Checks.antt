-- What `check` answers to a record: a kind and a text.
use Rattle.std.specs.Prelude.{◌≡◌, ◌⊎◌, ◌++◌, ℕ, List, [], ◌∷◌, Option, Some, None, Result, Ok, Err, flat_map, codes, if◌then◌else◌}
use Rattle.std.specs.Str.{bytes_eq}
use Rattle.digits_core.specs.Faults.{digit_fault_text}
use Rattle.digits_core.specs.declared.fault.DigitFault.{DigitFault}
use Rattle.element_core.specs.Elements.{hri}
use Rattle.element_core.specs.Lines.{IsDigitLine, IsElementsLine, gtin_line, line_of_gtin, line_text}
use Rattle.element_core.specs.declared.line.Line.{Line}
use Rattle.message_core.specs.Spellings.{spelled}
use Rattle.message_core.specs.Upce.{IsUpceDigits, IsUpceFault, upce_fault}
use Rattle.csv_records.specs.input.Records.{Meaning}
use Rattle.csv_records.specs.declared.check.answer.CheckKind.{CheckKind}
use Rattle.csv_records.specs.declared.check.answer.CheckKind.TheVariants as kind
use Rattle.csv_records.specs.declared.input.fault.RecordFault.{RecordFault}
use Rattle.element_core.specs.Terms.{Terms}
use Rattle.csv_records.specs.declared.input.fault.RecordFault.TheVariants as fault

-- the kind of check that a record names
abbrev pub check_kind_named : List ℕ → Option CheckKind
check_kind_named name =
    if bytes_eq name (codes "digit") then Some kind.Digit
    else if bytes_eq name (codes "gtin") then Some kind.Gtin
    else if bytes_eq name (codes "upce") then Some kind.Upce
    else if bytes_eq name (codes "text") then Some kind.Text
    else None

-- ---- the lines that answer records

-- the line of UPC-E digits: the GTIN that they stand for, or why they are refused
abbrev pub IsUpceLine : List ℕ → List ℕ → Type 0
IsUpceLine text line =
    ((gtin : List ℕ) × (upce_fault text ≡ None) × IsUpceDigits text gtin × (line ≡ line_of_gtin gtin))
    ⊎ ((fault : DigitFault) × IsUpceFault text fault × (line ≡ digit_fault_text fault))

-- the line of a text, as one of this kind
abbrev pub IsLineAs : Terms → CheckKind → List ℕ → List ℕ → Type 0
IsLineAs year kind.Digit text line = IsDigitLine text line
IsLineAs year kind.Gtin text line = line ≡ gtin_line text
IsLineAs year kind.Upce text line = IsUpceLine text line
IsLineAs year kind.Text text line = IsElementsLine (codes "hri") hri year (spelled text) line

-- the line of a text, by the kind that its record names, or the fault of a name of no kind
abbrev pub IsLineBy : Terms → Option CheckKind → List ℕ → Result Line RecordFault → Type 0
IsLineBy year (Some kind) text (Ok l) = IsLineAs year kind text (line_text l)
IsLineBy year (Some kind) text (Err f) = ⊥
IsLineBy year None text r = r ≡ Err fault.Kind

-- what a record means: the line of its text, or its first fault: the number of its fields, then its kind
abbrev pub check_meaning : Terms → Meaning Line
check_meaning year (name ∷ text ∷ []) r = IsLineBy year (check_kind_named name) text r
check_meaning year _ r = r ≡ Err fault.Csv

-- all lines, each with a line feed at its end
abbrev pub check_report : List Line → List ℕ
check_report lines = flat_map (λ l. line_text l ++ (10 ∷ [])) lines
