use Rattle.std.proofs.Common.{refl}
use Rattle.hub_core.proofs.calling_thread.CallingThread.take_turn.Goals as goal
use Rattle.hub_core.proofs.ThreadGoesOn.{lost_since, lost_step}

pub returns-in_err-collected-clause-step : goal.returns-in_err-collected-clause-step
returns-in_err-collected-clause-step g c =
    lost_step _ _ _ _ _ c.from_residual.ensures.0 (lost_since _ _ _ _ _ refl refl refl c.in_err-collected.ensures)
