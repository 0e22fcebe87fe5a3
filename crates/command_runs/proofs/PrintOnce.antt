-- `print` writes one text of bytes at most of the same bytes: each record means one label (`one_print`).
use Rattle.std.proofs.Common.{◌≡◌, ◌∙◌, List, None, Ok, Option, Some, [], ◌∷◌, ap, subst, sym, ℕ}
use Rattle.element_core.specs.Elements.{Listing, OneListOrFault}
use Rattle.sheet_core.specs.Bitmaps.{Bitmap}
use Rattle.sheet_core.specs.Grids.{Cells}
use Rattle.sheet_core.specs.pbm.Images.{pbm_of}
use Rattle.sheet_core.specs.PrintLaws.{AreBytes, OnePrinted}
use Rattle.sheet_core.specs.Kinds.{kind_named}
use Rattle.sheet_core.specs.declared.kind.LabelKind.{LabelKind}
use Rattle.sheet_core.specs.declared.kind.LabelKind.TheVariants as kind
use Rattle.sheet_core.specs.declared.label.Label.{Label}
use Rattle.sheet_core.specs.declared.label.Label.TheVariants as label
use Rattle.command_runs.specs.Grids.{cells_of}
use Rattle.csv_records.specs.input.Records.{Fields}
use Rattle.message_core.specs.Spellings.{spelled}
use Rattle.csv_records.specs.print.Labels.{IsElementLabel, IsLabelAs, IsLabelBy, print_meaning}
use Rattle.command_runs.specs.commands.Prints.{IsPrinted, OnePrint}
use Rattle.command_line.specs.declared.commands.print.options.Output.{Output}
use Rattle.command_line.specs.declared.commands.print.options.Output.TheVariants as output
use Rattle.element_core.specs.Terms.{Terms}
use Rattle.command_runs.proofs.LanesOnce.{mean_once}

module _ (one : OneListOrFault) (year : Terms) where
  -- a listing is its year and its list
  listing_by_parts : (x y : Listing) → x.year ≡ y.year → x.list ≡ y.list → x ≡ y
  listing_by_parts x y years lists = λ i. record { year = years i; list = lists i }

  -- an element string means one label, since it has one list of elements
  element_label : (text : List ℕ) (a b : Label) → IsElementLabel year text (Ok a) → IsElementLabel year text (Ok b) → a ≡ b
  element_label text a b h k =
      let lists = (one year text).0 h.0.list k.0.list h.3 k.3 in
      h.1 ∙ ap label.Gs1128 (listing_by_parts h.0 k.0 (h.2 ∙ sym k.2) lists) ∙ sym k.1

  -- so does a text of a kind, whatever the kind
  label_by_kind : (k : LabelKind) (field : List ℕ) (a b : Label) → IsLabelAs year k field (Ok a) → IsLabelAs year k field (Ok b) → a ≡ b
  label_by_kind (kind.Gtin k) field a b h p = h.1 ∙ sym p.1
  label_by_kind kind.Gs1128 field a b h p = element_label (spelled field) a b h p

  label_by_name : (o : Option LabelKind) (field : List ℕ) (a b : Label) → IsLabelBy year o field (Ok a) → IsLabelBy year o field (Ok b) → a ≡ b
  label_by_name (Some k) field a b h p = label_by_kind k field a b h p
  label_by_name None field a b h p = cc h

  -- a record means one label: its fields are a kind and a text, or it means none
  label_once : (fields : Fields) (a b : Label) → print_meaning year fields (Ok a) → print_meaning year fields (Ok b) → a ≡ b
  label_once [] a b h k = cc h
  label_once (name ∷ []) a b h k = cc h
  label_once (name ∷ field ∷ []) a b h k = label_by_name (kind_named name) field a b h k
  label_once (name ∷ field ∷ other ∷ more) a b h k = cc h

-- what is printed of labels is one text
printed_once : OnePrinted → (g : Cells) (o : Output) (labels : List Label) (text other : List ℕ) → AreBytes text → AreBytes other
    → IsPrinted g o labels text → IsPrinted g o labels other → text ≡ other
printed_once one g output.Lines labels text other small small_too h k = h.1 ∙ sym k.1
printed_once one g output.Images labels text other small small_too h k =
    let sheets : List Bitmap = h.0 in
    let others : List Bitmap = k.0 in
    let same = one labels g sheets others h.1 k.1 (subst AreBytes h.2 small) (subst AreBytes k.2 small_too) in
    h.2 ∙ ap pbm_of same ∙ sym k.2

pub one_print : OneListOrFault → OnePrinted → OnePrint
one_print answers prints o bytes text other small small_too h k =
    let g = cells_of o.grid in
    let same = mean_once (print_meaning o.year) (label_once answers o.year) bytes k.0 h.0 k.1 h.1 in
    let printed : IsPrinted g o.output h.0 other = subst (λ labels. IsPrinted g o.output labels other) same k.2.1 in
    printed_once prints g o.output h.0 text other small small_too h.2.1 printed
