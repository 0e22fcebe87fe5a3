use Rattle.std.proofs.Common.{◌≡◌, drop}
use Rattle.element_core.specs.Elements.{each_part}
use Rattle.element_core.specs.inner.PartTests.{passes}
use Rattle.element_core.proofs.value.each_part.Given as goal

abbrev pub invariant-loop-part : goal.invariant-loop-part
invariant-loop-part l = each_part (passes l.test) (drop l.part-index l.parts) l.rest ≡ each_part (passes l.test) l.parts l.fn.value
