use Rattle.std.proofs.Common.{◌≡◌, ◌≤◌, ◌*◌, sum, take}
use Rattle.shop_core.proofs.bars.module_sum.Given as goal

abbrev pub invariant-loop-width : goal.invariant-loop-width
invariant-loop-width l = record {
  total_is : l.total ≡ sum (take l.width-index l.modules);
  few : l.total ≤ 255 * l.width-index;
}
