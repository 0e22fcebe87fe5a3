use Rattle.element_core.proofs.DayLaws.{day_zero}
use Rattle.element_core.proofs.laws.day_zero.Goals as goal

pub returns : goal.returns
returns c = day_zero
