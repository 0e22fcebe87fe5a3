use Rattle.std.proofs.Common.{arith}
use Rattle.test_doubles.proofs.OpenHubFacts.{lane_polled}
use Rattle.test_doubles.proofs.seats.Closed.poll.Goals as goal

pub invariant_of-self : goal.invariant_of-self
invariant_of-self c =
    let s = c.args.self.now in
    record {
      all = lane_polled s.hub s.lanes.items s.workers.items s.deliverer c.args.lane c.index_mut.result.now c.poll.new.self c.poll.result
          (omega (arith, c.if-lane-len.false, c.len.ensures, s.lanes.ok.0)) c.index_mut.ensures.value c.poll.ensures s.all;
    }
