use Rattle.lane_core.proofs.PolledFacts.{polled_in_order as law}
use Rattle.lane_core.proofs.laws.polled_in_order.Goals as goal

pub returns : goal.returns
returns c = law
