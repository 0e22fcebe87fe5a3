use Rattle.lane_core.proofs.SettlingFacts.{all_found as law}
use Rattle.lane_core.proofs.laws.all_found.Goals as goal

pub returns : goal.returns
returns c = law
