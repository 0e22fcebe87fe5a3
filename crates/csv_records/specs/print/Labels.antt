-- The labels of records, each a kind and a text, and their lines.
use Rattle.std.specs.Prelude.{◌≡◌, ◌++◌, ◌+◌, ◌/◌, ◌%◌, ℕ, List, [], ◌∷◌, Option, Some, None, Result, Ok, Err, option_map}
use Rattle.std.specs.Fmt.{decimal}
use Rattle.digits_core.specs.Digits.{digits_of, padded}
use Rattle.digits_core.specs.Gtins.{gtin_fault}
use Rattle.digits_core.specs.declared.fault.DigitFault.{DigitFault}
use Rattle.element_core.specs.declared.fault.ElementFault.{ElementFault}
use Rattle.element_core.specs.Elements.{Entry, FirstFault, IsElements, Listing, hri}
use Rattle.sheet_core.specs.Kinds.{symbology_of, kind_named}
use Rattle.sheet_core.specs.Labels.{content_list, content_of, gtin_label, label_kind}
use Rattle.sheet_core.specs.declared.kind.GtinKind.{GtinKind}
use Rattle.sheet_core.specs.declared.kind.LabelKind.{LabelKind}
use Rattle.sheet_core.specs.declared.kind.LabelKind.TheVariants as kind
use Rattle.sheet_core.specs.declared.label.Label.{Label}
use Rattle.sheet_core.specs.declared.label.Label.TheVariants as label
use Rattle.message_core.specs.Spellings.{spelled}
use Rattle.csv_records.specs.input.Records.{Meaning}
use Rattle.csv_records.specs.declared.input.fault.RecordFault.{RecordFault}
use Rattle.element_core.specs.Terms.{Terms}
use Rattle.csv_records.specs.declared.input.fault.RecordFault.TheVariants as fault

-- a fault of digits, as the record's
abbrev pub of_digits : Option DigitFault → Option RecordFault
of_digits = option_map fault.Digits

-- ---- labels

-- the label of a GTIN, or the fault of its digits
abbrev pub IsGtinLabel : GtinKind → List ℕ → Result Label RecordFault → Type 0
IsGtinLabel kind text (Ok l) = (gtin_fault text ≡ None) × (l ≡ gtin_label kind (padded (digits_of text)))
IsGtinLabel kind text (Err f) = of_digits (gtin_fault text) ≡ Some f

-- the label of the elements that a text says (GS1 General Specifications, section 7.8), or their first fault
abbrev pub IsElementLabel : Terms → List ℕ → Result Label RecordFault → Type 0
IsElementLabel year text (Ok l) = (es : Listing) × (l ≡ label.Gs1128 es) × (es.year ≡ year) × IsElements year text es.list
IsElementLabel year text (Err f) = (e : ElementFault) × (f ≡ fault.Elements e) × FirstFault year text e

-- the label of a field, as one of this kind, or its fault
abbrev pub IsLabelAs : Terms → LabelKind → List ℕ → Result Label RecordFault → Type 0
IsLabelAs year (kind.Gtin k) field r = IsGtinLabel k field r
IsLabelAs year kind.Gs1128 field r = IsElementLabel year (spelled field) r

-- the label of a field, by the kind that its record names, or the fault of a name of no kind
abbrev pub IsLabelBy : Terms → Option LabelKind → List ℕ → Result Label RecordFault → Type 0
IsLabelBy year (Some kind) field r = IsLabelAs year kind field r
IsLabelBy year None field r = r ≡ Err fault.Kind

-- what a record means: a label, or its first fault: the number of its fields, then its kind, then its second field
abbrev pub print_meaning : Terms → Meaning Label
print_meaning year (name ∷ field ∷ []) r = IsLabelBy year (kind_named name) field r
print_meaning year _ r = r ≡ Err fault.Csv

-- ---- what is written

-- the elements that a label says
abbrev pub label_list : Label → List Entry
label_list l = content_list (content_of l)

-- the human-readable line of a label
abbrev pub label_hri : Label → List ℕ
label_hri l = hri (label_list l)

-- a line: the sheet, the cell in it, the kind, the human-readable line and a line feed
abbrev pub label_line : ℕ → ℕ → Label → List ℕ
label_line cells i l = decimal (i / cells) ++ (32 ∷ []) ++ decimal (i % cells) ++ (32 ∷ []) ++ (symbology_of (label_kind l)).name ++ (32 ∷ []) ++ label_hri l
    ++ (10 ∷ [])

-- the lines of labels, from an index on, if a sheet has this many cells
abbrev pub label_lines_from : ℕ → ℕ → List Label → List ℕ
label_lines_from cells i [] = []
label_lines_from cells i (l ∷ rest) = label_line cells i l ++ label_lines_from cells (i + 1) rest

-- the lines of all labels: the first label is in the first cell of the first sheet
abbrev pub label_lines : ℕ → List Label → List ℕ
label_lines cells = label_lines_from cells 0
