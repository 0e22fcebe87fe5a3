-- Labels of texts, and the images of single labels.
use Rattle.std.specs.Prelude.{◌≡◌, ◌⊎◌, ◌==◌, ℕ, List, [], ◌∷◌, Option, Some, None, Result, Ok, Err, if◌then◌else◌}
use Rattle.digits_core.specs.Digits.{digits_of, padded}
use Rattle.digits_core.specs.Faults.{digit_fault_text}
use Rattle.digits_core.specs.Gtins.{gtin_fault}
use Rattle.digits_core.specs.Refusals.{refusal_words}
use Rattle.digits_core.specs.declared.refusal.RefusalKind.TheVariants as refusal
use Rattle.digits_core.specs.declared.fault.DigitFault.{DigitFault}
use Rattle.element_core.specs.Elements.{FirstFault, IsElements, Listing}
use Rattle.element_core.specs.Faults.{element_fault_text}
use Rattle.element_core.specs.declared.fault.ElementFault.{ElementFault}
use Rattle.sheet_core.specs.Bitmaps.{Bitmap}
use Rattle.sheet_core.specs.Drawing.{ArePrinted, IsSheetFault}
use Rattle.sheet_core.specs.Faults.{sheet_fault_text}
use Rattle.sheet_core.specs.Grids.{Cells, IsGrid}
use Rattle.sheet_core.specs.pbm.Images.{pbm_of}
use Rattle.sheet_core.specs.declared.fault.SheetFault.{SheetFault}
use Rattle.sheet_core.specs.Labels.{gtin_label}
use Rattle.sheet_core.specs.declared.kind.GtinKind.{GtinKind}
use Rattle.sheet_core.specs.declared.kind.GtinKind.TheVariants as gtin_kind
use Rattle.sheet_core.specs.declared.kind.LabelKind.{LabelKind}
use Rattle.sheet_core.specs.declared.kind.LabelKind.TheVariants as kind
use Rattle.sheet_core.specs.declared.label.Label.{Label}
use Rattle.sheet_core.specs.declared.label.Label.TheVariants as label
use Rattle.element_core.specs.Terms.{Terms}
use Rattle.gs1_c.specs.Lines.{Under, terms_of, words_text}

-- the kind of this number
abbrev pub kind_numbered : ℕ → Option LabelKind
kind_numbered n =
    if n == 0 then Some (kind.Gtin gtin_kind.Ean13)
    else if n == 1 then Some (kind.Gtin gtin_kind.UpcA)
    else if n == 2 then Some (kind.Gtin gtin_kind.Ean8)
    else if n == 3 then Some (kind.Gtin gtin_kind.UpcE)
    else if n == 4 then Some kind.Gs1128
    else if n == 5 then Some (kind.Gtin gtin_kind.Itf14)
    else None

-- one cell, in dots
abbrev pub one_cell : ℕ → ℕ → ℕ → Cells
one_cell module_dots width height = record { dots = module_dots; width = width; height = height; columns = 1; rows = 1 }

-- the label of the GTIN that a text shows, by its fault; or the line of the fault
abbrev pub gtin_label_by : GtinKind → List ℕ → Option DigitFault → Result Label (List ℕ)
gtin_label_by k text None = Ok (gtin_label k (padded (digits_of text)))
gtin_label_by k text (Some fault) = Err (digit_fault_text fault)

-- the label of the elements that a text says, or the line of its first fault
abbrev pub IsElementsLabel : Terms → List ℕ → Result Label (List ℕ) → Type 0
IsElementsLabel terms text (Ok l) = (es : Listing) × (l ≡ label.Gs1128 es) × (es.year ≡ terms) × IsElements terms text es.list
IsElementsLabel terms text (Err line) = (fault : ElementFault) × FirstFault terms text fault × (line ≡ element_fault_text fault)

-- the label that a text makes as this kind, or the line of its fault
abbrev pub IsLabelOf : Terms → LabelKind → List ℕ → Result Label (List ℕ) → Type 0
IsLabelOf terms (kind.Gtin k) text r = r ≡ gtin_label_by k text (gtin_fault text)
IsLabelOf terms kind.Gs1128 text r = IsElementsLabel terms text r

-- what is said of the label, or the line of the fault
abbrev pub IsSaidOf : (Label → List ℕ → Type 0) → Result Label (List ℕ) → List ℕ → Type 0
IsSaidOf Says (Ok l) bytes = Says l bytes
IsSaidOf Says (Err line) bytes = bytes ≡ line

-- the same of the label that a text makes
abbrev pub IsKindSaid : (Label → List ℕ → Type 0) → Terms → LabelKind → List ℕ → List ℕ → Type 0
IsKindSaid Says terms k text bytes = (r : Result Label (List ℕ)) × IsLabelOf terms k text r × IsSaidOf Says r bytes

-- the same by the kind's number: first the kind is looked at, then the terms
abbrev pub IsNumberSaid : (Label → List ℕ → Type 0) → Option LabelKind → ℕ → List ℕ → List ℕ → Type 0
IsNumberSaid Says None number text bytes = bytes ≡ refusal_words refusal.Kind
IsNumberSaid Says (Some k) number text bytes = Under (terms_of number) (bytes ≡ words_text) (λ terms. IsKindSaid Says terms k text bytes)

-- ---- images

-- the bytes are the image of the sheet of this one label, or the line of why it is not printed
abbrev pub IsLabelAnswer : Label → Cells → List ℕ → Type 0
IsLabelAnswer l g bytes =
    ((sheets : List Bitmap) × ArePrinted (l ∷ []) g sheets × (bytes ≡ pbm_of sheets))
    ⊎ ((fault : SheetFault) × IsSheetFault g (l ∷ []) fault × (bytes ≡ sheet_fault_text fault))

-- the image of the label that a text makes as the kind of this number: before the text the cell is looked at
abbrev pub IsImageSaid : Option LabelKind → ℕ → List ℕ → Cells → List ℕ → Type 0
IsImageSaid None number text g bytes = bytes ≡ refusal_words refusal.Kind
IsImageSaid (Some k) number text g bytes =
    Under (terms_of number) (bytes ≡ words_text)
    (λ terms. ((IsGrid g → ⊥) × (bytes ≡ refusal_words refusal.BadGrid)) ⊎ (IsGrid g × IsKindSaid (λ l. IsLabelAnswer l g) terms k text bytes))

abbrev pub IsLabelBytes : ℕ → ℕ → List ℕ → Cells → List ℕ → Type 0
IsLabelBytes kind number text g bytes = IsImageSaid (kind_numbered kind) number text g bytes
