-- Kinds of labels (GS1 General Specifications, sections 5.2 to 5.4).
use Rattle.std.specs.Prelude.{ℕ, List, [], ◌∷◌, Option, codes}
use Rattle.std.specs.List.{find}
use Rattle.std.specs.Str.{bytes_eq}
use Rattle.scan_core.specs.declared.carrier.Carrier.{Carrier}
use Rattle.scan_core.specs.declared.carrier.Carrier.TheVariants as carrier
use Rattle.sheet_core.specs.declared.kind.GtinKind.TheVariants.{Ean13, UpcA, Ean8, UpcE, Itf14}
use Rattle.sheet_core.specs.declared.kind.LabelKind.{LabelKind}
use Rattle.sheet_core.specs.declared.kind.LabelKind.TheVariants.{Gtin, Gs1128}

-- a kind of label: its name, the carrier that its symbol reads as, and the nominal quiet zones left and right, in
-- modules
pub record Symbology : Type 0 where
  pub name : List ℕ
  pub carrier : Carrier
  pub quiet_left : ℕ
  pub quiet_right : ℕ

-- the table of kinds
abbrev pub symbology_of : LabelKind → Symbology
symbology_of (Gtin Ean13) = record { name = codes "ean13"; carrier = carrier.Ean13; quiet_left = 11; quiet_right = 7 }
symbology_of (Gtin UpcA) = record { name = codes "upca"; carrier = carrier.Ean13; quiet_left = 9; quiet_right = 9 }
symbology_of (Gtin Ean8) = record { name = codes "ean8"; carrier = carrier.Ean8; quiet_left = 7; quiet_right = 7 }
symbology_of (Gtin UpcE) = record { name = codes "upce"; carrier = carrier.UpcE; quiet_left = 9; quiet_right = 7 }
symbology_of (Gtin Itf14) = record { name = codes "itf14"; carrier = carrier.Itf14; quiet_left = 10; quiet_right = 10 }
symbology_of Gs1128 = record { name = codes "gs1128"; carrier = carrier.Gs1128; quiet_left = 10; quiet_right = 10 }

-- all kinds
abbrev pub kinds : List LabelKind
kinds = Gtin Ean13 ∷ Gtin UpcA ∷ Gtin Ean8 ∷ Gtin UpcE ∷ Gtin Itf14 ∷ Gs1128 ∷ []

-- the kind of this name
abbrev pub kind_named : List ℕ → Option LabelKind
kind_named name = find (λ kind. bytes_eq (symbology_of kind).name name) kinds
