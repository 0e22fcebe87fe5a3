use Rattle.lane_core.proofs.PolledFacts.{lists_grow as law}
use Rattle.lane_core.proofs.laws.lists_grow.Goals as goal

pub returns : goal.returns
returns c = law
