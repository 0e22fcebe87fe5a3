use Rattle.lane_core.proofs.SiftFacts.{kept_whole as law}
use Rattle.lane_core.proofs.laws.kept_whole.Goals as goal

pub returns : goal.returns
returns c = law
