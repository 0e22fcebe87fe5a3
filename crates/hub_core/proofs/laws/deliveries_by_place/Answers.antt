use Rattle.hub_core.proofs.RowsAreNumbered.{deliveries_by_place as law}
use Rattle.hub_core.proofs.laws.deliveries_by_place.Goals as goal

pub returns : goal.returns
returns c = law
