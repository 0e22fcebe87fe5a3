use Rattle.std.proofs.Common.{◌≡◌, drop}
use Rattle.std.specs.List.{list_all}
use Rattle.element_core.specs.Elements.{belongs}
use Rattle.element_core.proofs.value.each_belongs.Given as goal

abbrev pub invariant-loop-b : goal.invariant-loop-b
invariant-loop-b l = list_all (belongs l.format) (drop l.b-index l.bytes) ≡ list_all (belongs l.format) l.bytes
