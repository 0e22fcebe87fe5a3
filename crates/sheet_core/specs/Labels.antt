-- Labels and their symbols (GS1 General Specifications, sections 5.2 to 5.4).
use Rattle.std.specs.Prelude.{◌≡◌, ℕ, ◌++◌, ◌*◌, ◌+◌, ◌≤◌, List, [], ◌∷◌, codes, drop, length, sum}
use Rattle.digits_core.specs.Digits.{ascii_of, padded}
use Rattle.ean_code.specs.Spelling.{IsPrintedUpce, IsSpelled}
use Rattle.ean_code.specs.declared.kind.Kind.TheVariants.{Ean13 as KindEan13, Ean8 as KindEan8, Itf14 as KindItf14}
use Rattle.ean_code.specs.declared.reading.Spelled.TheVariants.{Found}
use Rattle.element_core.specs.Elements.{Entry, Listing, canonical, gtin_entry}
use Rattle.code128_code.specs.Characters.{start_c}
use Rattle.code128_code.specs.Coding.{data_values}
use Rattle.code128_code.specs.Symbols.{IsCode128Symbol, mod103}
use Rattle.code128_code.specs.Texts.{IsGs1Symbol}
use Rattle.scan_core.specs.declared.carrier.Carrier.{Carrier}
use Rattle.sheet_core.specs.declared.kind.GtinKind.{GtinKind}
use Rattle.sheet_core.specs.declared.kind.GtinKind.TheVariants as kind
use Rattle.sheet_core.specs.declared.kind.LabelKind.{LabelKind}
use Rattle.sheet_core.specs.declared.kind.LabelKind.TheVariants.{Gtin, Gs1128 as KindGs1128}
use Rattle.sheet_core.specs.declared.label.Content.{Content as Lent}
use Rattle.sheet_core.specs.declared.label.Content.TheVariants.{Gtin as LentGtin, Elements as LentElements}
use Rattle.sheet_core.specs.declared.label.Label.{Label}
use Rattle.sheet_core.specs.declared.label.Label.TheVariants.{Ean13, UpcA, Ean8, UpcE, Itf14, Gs1128}
use Rattle.sheet_core.specs.Grids.{Cells}
use Rattle.sheet_core.specs.Kinds.{symbology_of}

-- the element string of a GTIN: Application Identifier 01 and its 14 digits
abbrev pub gtin_text : List ℕ → List ℕ
gtin_text gtin = codes "01" ++ ascii_of gtin

-- the content of a label: a GTIN, or a list of elements
pub data Content : Type 0 where
  OfGtin : List ℕ → Content
  OfElements : Listing → Content

-- the parts of a label: its kind and its content
abbrev pub parts_of : Label → LabelKind × Content
parts_of (Ean13 gtin) = (Gtin kind.Ean13, OfGtin gtin)
parts_of (UpcA gtin) = (Gtin kind.UpcA, OfGtin gtin)
parts_of (Ean8 gtin) = (Gtin kind.Ean8, OfGtin gtin)
parts_of (UpcE gtin) = (Gtin kind.UpcE, OfGtin gtin)
parts_of (Itf14 gtin) = (Gtin kind.Itf14, OfGtin gtin)
parts_of (Gs1128 listing) = (KindGs1128, OfElements listing)

abbrev pub label_kind : Label → LabelKind
label_kind label = (parts_of label).0

abbrev pub content_of : Label → Content
content_of label = (parts_of label).1

-- the label of a GTIN
abbrev pub gtin_label : GtinKind → List ℕ → Label
gtin_label kind.Ean13 gtin = Ean13 gtin
gtin_label kind.UpcA gtin = UpcA gtin
gtin_label kind.Ean8 gtin = Ean8 gtin
gtin_label kind.UpcE gtin = UpcE gtin
gtin_label kind.Itf14 gtin = Itf14 gtin

-- a borrowed content
abbrev pub lent : Lent → Content
lent (LentGtin gtin) = OfGtin gtin.now
lent (LentElements elements) = OfElements elements.now

-- a content as an element string
abbrev pub content_text : Content → List ℕ
content_text (OfGtin gtin) = gtin_text gtin
content_text (OfElements listing) = canonical listing.list

-- a content as a list of elements
abbrev pub content_list : Content → List Entry
content_list (OfGtin gtin) = gtin_entry gtin ∷ []
content_list (OfElements listing) = listing.list

-- the content of a label as an element string
abbrev pub label_text : Label → List ℕ
label_text label = content_text (content_of label)

-- the carrier that its symbol reads as
abbrev pub carrier_of : Label → Carrier
carrier_of label = (symbology_of (label_kind label)).carrier

-- the modules are the GS1-128 symbol printed for a text of at most 48 characters: start character C, the values of the
-- text by the encoding rule, and the check character
pub record IsPrintedGs1128 (text modules : List ℕ) : Type 0 where
  pub few : length text ≤ 48
  pub drawn : IsCode128Symbol start_c (data_values text) (mod103 start_c (data_values text)) modules
  pub says : IsGs1Symbol modules text

-- the modules are the label's symbol; a UPC-A symbol is an EAN-13 symbol with first digit 0
abbrev pub IsLabelSymbol : Label → List ℕ → Type 0
IsLabelSymbol (Ean13 gtin) modules = IsSpelled KindEan13 modules (Found gtin)
IsLabelSymbol (UpcA gtin) modules = (gtin ≡ padded (drop 2 gtin)) × IsSpelled KindEan13 modules (Found gtin)
IsLabelSymbol (Ean8 gtin) modules = IsSpelled KindEan8 modules (Found gtin)
IsLabelSymbol (UpcE gtin) modules = IsPrintedUpce gtin modules
IsLabelSymbol (Itf14 gtin) modules = IsSpelled KindItf14 modules (Found gtin)
IsLabelSymbol (Gs1128 listing) modules = IsPrintedGs1128 (canonical listing.list) modules

-- the modules of a symbol and its quiet zones, as printed
pub record Drawn : Type 0 where
  pub modules : List ℕ
  pub quiet_left : ℕ
  pub quiet_right : ℕ

-- this is drawn for the label
pub record IsDrawn (label : Label) (s : Drawn) : Type 0 where
  pub symbol : IsLabelSymbol label s.modules
  pub left : s.quiet_left ≡ (symbology_of (label_kind label)).quiet_left
  pub right : s.quiet_right ≡ (symbology_of (label_kind label)).quiet_right

-- a symbol with its quiet zones is at most as wide as a cell, in dots
abbrev pub FitsCell : Cells → Drawn → Type 0
FitsCell g s = (s.quiet_left + sum s.modules + s.quiet_right) * g.dots ≤ g.width

-- the label has a symbol that fits its cell
abbrev pub IsPrintable : Cells → Label → Type 0
IsPrintable g label = (s : Drawn) × IsDrawn label s × FitsCell g s
