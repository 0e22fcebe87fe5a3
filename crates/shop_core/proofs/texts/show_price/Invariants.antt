use Rattle.std.proofs.Common.{◌≡◌, false, take}
use Rattle.std.specs.List.{list_any}
use Rattle.shop_core.specs.Drawings.{shows_price}
use Rattle.shop_core.proofs.texts.show_price.Given as goal

abbrev pub invariant-loop-part : goal.invariant-loop-part
invariant-loop-part l = list_any (shows_price l.letters) (take l.part-index l.parts) ≡ false
