use Rattle.hub_core.proofs.LanesGetTheirRows.{headline}
use Rattle.hub_core.proofs.laws.headline.Goals as goal

pub returns : goal.returns
returns c = headline
