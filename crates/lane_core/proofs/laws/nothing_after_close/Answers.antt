use Rattle.lane_core.proofs.HistoryFacts.{nothing_after_close as law}
use Rattle.lane_core.proofs.laws.nothing_after_close.Goals as goal

pub returns : goal.returns
returns c = law
