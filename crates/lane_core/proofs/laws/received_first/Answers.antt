use Rattle.lane_core.proofs.ClaimFacts.{received_first as law}
use Rattle.lane_core.proofs.laws.received_first.Goals as goal

pub returns : goal.returns
returns c = law
