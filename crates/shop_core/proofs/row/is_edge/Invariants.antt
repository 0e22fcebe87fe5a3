use Rattle.std.proofs.Common.{◌≡◌, false, take}
use Rattle.std.specs.List.{list_any}
use Rattle.shop_core.specs.inner.Edges.{begins_or_ends}
use Rattle.shop_core.proofs.row.is_edge.Given as goal

abbrev pub invariant-loop-part : goal.invariant-loop-part
invariant-loop-part l = list_any (begins_or_ends l.y) (take l.part-index l.parts) ≡ false
