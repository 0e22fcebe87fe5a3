-- All that was given has come back, so that the traffic may wait, and stays what it was.
use Rattle.std.proofs.Common.{refl}
use Rattle.hub_core.specs.inner.Traffics.{given_to, polled_by_each}
use Rattle.hub_core.proofs.SeatsServeTraffic.{even_given}
use Rattle.hub_core.proofs.calling_thread.CallingThread.wait_for_more.Goals as goal

pub wait-requires : goal.wait-requires
wait-requires g c =
    let s = c.args.self.now in
    let lanes = s.lanes.items in
    (s.start.value, given_to lanes s.held, polled_by_each lanes, rw c.deref_mut.ensures.value c.requires.serves.came, rw c.requires.back.1 (even_given lanes c.requires.back.0))

pub returns-clause-serves : goal.returns-clause-serves
returns-clause-serves g c =
    let s = c.args.self.now in
    let lanes = s.lanes.items in
    let is = c.requires.serves in
    record {
      hub = refl;
      start = refl;
      seats = refl;
      serves = record {
        lanes = is.lanes;
        deliverer = is.deliverer;
        own = is.own;
        came = c.wait.ensures.came s.start.value (given_to lanes s.held) (polled_by_each lanes) (rw c.deref_mut.ensures.value is.came) (rw c.requires.back.1 (even_given lanes c.requires.back.0));
      };
    }
