use Rattle.lane_core.proofs.OnePlaceFacts.{one_place as law}
use Rattle.lane_core.proofs.laws.one_place.Goals as goal

pub returns : goal.returns
returns c = law
