use Rattle.std.proofs.Common.{◌≡◌, false, take}
use Rattle.std.specs.List.{list_any}
use Rattle.shop_core.specs.Drawings.{is_cut_at}
use Rattle.shop_core.proofs.texts.is_cut_at.Given as goal

abbrev pub invariant-loop-part : goal.invariant-loop-part
invariant-loop-part l = list_any (is_cut_at l.field l.place) (take l.part-index l.parts) ≡ false
