use Rattle.std.proofs.Common.{◌≡◌, false, take}
use Rattle.std.specs.List.{list_any}
use Rattle.shop_core.specs.Drawings.{bears_below}
use Rattle.shop_core.proofs.bars.is_borne_below.Given as goal

abbrev pub invariant-loop-part : goal.invariant-loop-part
invariant-loop-part l = list_any (bears_below l.zone) (take l.part-index l.parts) ≡ false
