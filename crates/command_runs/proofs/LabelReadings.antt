-- The texts of the labels of records say their elements, whatever their kind, for `printed_is_scanned`.
use Rattle.std.proofs.Common.{ℕ, List, [], ◌∷◌, Ok, Option, Some, None, sym, subst}
use Rattle.std.specs.List.{AllByRecursion}
use Rattle.digits_core.specs.Digits.{digits_of, padded}
use Rattle.digits_core.specs.Laws.{GtinsAreChecked}
use Rattle.element_core.specs.Elements.{CanonicalReads, GtinReads, IsElements, gtin_entry}
use Rattle.sheet_core.specs.Kinds.{kind_named}
use Rattle.sheet_core.specs.Labels.{Content, content_list, content_text, gtin_text}
use Rattle.sheet_core.specs.declared.kind.GtinKind.{GtinKind}
use Rattle.sheet_core.specs.declared.kind.LabelKind.{LabelKind}
use Rattle.sheet_core.specs.declared.kind.LabelKind.TheVariants as kind
use Rattle.sheet_core.specs.declared.label.Label.{Label}
use Rattle.message_core.specs.Spellings.{spelled}
use Rattle.csv_records.specs.print.Labels.{IsElementLabel, IsGtinLabel, IsLabelAs, IsLabelBy, print_meaning}
use Rattle.sheet_core.proofs.OneLabelSymbol.{content_back}
use Rattle.command_runs.specs.Printed.{SaysElements}
use Rattle.element_core.specs.Terms.{Terms}
use Rattle.csv_records.specs.input.Records.{AreItems, Fields}

module _ (checked : GtinsAreChecked) (gtin : GtinReads) (canonical : CanonicalReads) (year : Terms) where
  -- the label of a GTIN, as whichever kind, says its element
  gtin_says : (k : GtinKind) (text : List ℕ) (l : Label) → IsGtinLabel k text (Ok l) → SaysElements year l
  gtin_says k text l h =
      let g : List ℕ = padded (digits_of text) in
      let is = checked text h.0 in
      let said : IsElements year (gtin_text g) (gtin_entry g ∷ []) = gtin g year is.0 is.1 is.2 in
      subst (SaysElements year) (sym h.1) (subst (λ (c : Content). IsElements year (content_text c) (content_list c)) (sym (content_back k g)) said)

  -- so does the label of an element string
  elements_say : (text : List ℕ) (l : Label) → IsElementLabel year text (Ok l) → SaysElements year l
  elements_say text l h = subst (SaysElements year) (sym h.1) (canonical year text h.0.list h.3).0

  says_by_kind : (k : LabelKind) (field : List ℕ) (l : Label) → IsLabelAs year k field (Ok l) → SaysElements year l
  says_by_kind (kind.Gtin k) field l h = gtin_says k field l h
  says_by_kind kind.Gs1128 field l h = elements_say (spelled field) l h

  says_by_name : (o : Option LabelKind) (field : List ℕ) (l : Label) → IsLabelBy year o field (Ok l) → SaysElements year l
  says_by_name (Some k) field l h = says_by_kind k field l h
  says_by_name None field l h = cc h

  -- so does the label of a record: its fields are a kind and a text, or it means no label
  record_says : (row : Fields) (l : Label) → print_meaning year row (Ok l) → SaysElements year l
  record_says [] l h = cc h
  record_says (name ∷ []) l h = cc h
  record_says (name ∷ field ∷ []) l h = says_by_name (kind_named name) field l h
  record_says (name ∷ field ∷ other ∷ more) l h = cc h

  pub labels_say : (rows : List Fields) (labels : List Label) → AreItems (print_meaning year) rows labels → AllByRecursion (SaysElements year) labels
  labels_say [] [] h = tt
  labels_say [] (l ∷ labels) h = absurd h
  labels_say (row ∷ rows) [] h = absurd h
  labels_say (row ∷ rows) (l ∷ labels) h = (record_says row l h.0, labels_say rows labels h.1)
