use Rattle.lane_core.proofs.PolledFacts.{done_stays_done as law}
use Rattle.lane_core.proofs.laws.done_stays_done.Goals as goal

pub returns : goal.returns
returns c = law
