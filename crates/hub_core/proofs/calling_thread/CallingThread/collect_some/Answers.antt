use Rattle.hub_core.proofs.calling_thread.CallingThread.collect_some.Goals as goal
use Rattle.hub_core.proofs.ThreadGoesOn.{lost_since, lost_step}

pub returns-in_err-bring_all : goal.returns-in_err-bring_all
returns-in_err-bring_all g c =
    let inv = c.loop-i.invariant in
    lost_step _ _ _ _ _ c.from_residual.ensures.0 (lost_since _ _ _ _ _ inv.hub inv.start inv.seats c.in_err-bring_all.ensures)
