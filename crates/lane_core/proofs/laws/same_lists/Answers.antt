use Rattle.lane_core.proofs.ClaimFacts.{same_lists as law}
use Rattle.lane_core.proofs.laws.same_lists.Goals as goal

pub returns : goal.returns
returns c = law
