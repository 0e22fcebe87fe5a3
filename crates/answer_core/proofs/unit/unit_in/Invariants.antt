use Rattle.std.proofs.Common.{◌≡◌, length, map}
use Rattle.answer_core.specs.Units.{unit_in}
use Rattle.answer_core.specs.inner.Units.{measured_by}
use Rattle.answer_core.proofs.unit.unit_in.Given as goal

abbrev pub invariant-loop-rest : goal.invariant-loop-rest
invariant-loop-rest l = unit_in l.ai (map measured_by l.rest) ≡ unit_in l.ai (map measured_by l.list)

abbrev pub decreases-loop-rest : goal.decreases-loop-rest
decreases-loop-rest l = length l.rest
