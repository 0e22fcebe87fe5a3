-- A turn that lost a delivery ends the run.
use Rattle.hub_core.proofs.calling_thread.CallingThread.run.Goals as goal
use Rattle.hub_core.proofs.ThreadGoesOn.{lost_since}

pub returns-in-Err : goal.returns-in-Err
returns-in-Err g c =
    let goes = c.loop.invariant.goes in
    let lost = lost_since _ _ _ _ _ goes.hub goes.start goes.seats c.in-Err.ensures.step in
    record {
      seats = lost.keeps;
      serves = λ kept. absurd kept;
      lost = lost;
      done = λ e. absurd (cc);
    }
