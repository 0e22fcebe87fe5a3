use Rattle.std.proofs.Common.{refl}
use Rattle.answer_core.specs.Units.{units}
use Rattle.answer_core.proofs.unit.units.Goals as goal

pub returns : goal.returns
unfolding units
returns c = refl
