-- All kinds of labels: a test that each passes is one computation.
use Rattle.std.proofs.Common.{◌≡◌, Bool, true, arith}
use Rattle.std.specs.List.{list_all}
use Rattle.std.proofs.lemmas.List.Sums.{AllPass-from_list_all}
use Rattle.sheet_core.specs.Kinds.{kinds}
use Rattle.sheet_core.specs.declared.kind.GtinKind.TheVariants.{Ean13, UpcA, Ean8, UpcE, Itf14}
use Rattle.sheet_core.specs.declared.kind.LabelKind.{LabelKind}
use Rattle.sheet_core.specs.declared.kind.LabelKind.TheVariants.{Gtin, Gs1128}

pub each_label_kind : (test : LabelKind → Bool) → list_all test kinds ≡ true → (kind : LabelKind) → test kind ≡ true
each_label_kind test h (Gtin Ean13) = AllPass-from_list_all test kinds h 0 Gs1128 (omega arith)
each_label_kind test h (Gtin UpcA) = AllPass-from_list_all test kinds h 1 Gs1128 (omega arith)
each_label_kind test h (Gtin Ean8) = AllPass-from_list_all test kinds h 2 Gs1128 (omega arith)
each_label_kind test h (Gtin UpcE) = AllPass-from_list_all test kinds h 3 Gs1128 (omega arith)
each_label_kind test h (Gtin Itf14) = AllPass-from_list_all test kinds h 4 Gs1128 (omega arith)
each_label_kind test h Gs1128 = AllPass-from_list_all test kinds h 5 Gs1128 (omega arith)
