use Rattle.hub_core.proofs.LanesGetTheirRows.{earlier_first, settled_first}
use Rattle.hub_core.proofs.laws.polled_first.Goals as goal

pub returns : goal.returns
returns c = record { settled = settled_first; earlier = earlier_first }
