use Rattle.lane_core.proofs.DeliveryAnswers.{polled_are_read as law}
use Rattle.lane_core.proofs.laws.polled_are_read.Goals as goal

pub returns : goal.returns
returns c = law
