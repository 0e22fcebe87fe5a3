use Rattle.std.proofs.Common.{◌≡◌, false, take}
use Rattle.std.specs.List.{list_any}
use Rattle.shop_core.specs.Drawings.{has_letter}
use Rattle.shop_core.proofs.texts.has_letter.Given as goal

abbrev pub invariant-loop-part : goal.invariant-loop-part
invariant-loop-part l = list_any (has_letter l.field l.place) (take l.part-index l.parts) ≡ false
