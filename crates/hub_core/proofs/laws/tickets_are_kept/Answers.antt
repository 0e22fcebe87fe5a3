use Rattle.hub_core.proofs.LanesGetTheirRows.{ticket_kept}
use Rattle.hub_core.proofs.laws.tickets_are_kept.Goals as goal

pub returns : goal.returns
returns c = ticket_kept
