use Rattle.lane_core.proofs.PolledFacts.{tickets_once as law}
use Rattle.lane_core.proofs.laws.tickets_once.Goals as goal

pub returns : goal.returns
returns c = law
