use Rattle.lane_core.proofs.QueueFacts.{queues_keep as law}
use Rattle.lane_core.proofs.laws.queues_keep.Goals as goal

pub returns : goal.returns
returns c = law
