use Rattle.std.proofs.Common.{arith}
use Rattle.test_doubles.proofs.OpenHubFacts.{count_kept, seats_kept}
use Rattle.test_doubles.proofs.seats.OpenHub.poll_and_open.Goals as goal

pub invariant_of-station : goal.invariant_of-station
invariant_of-station g c =
    let s = c.args.self in
    let done = c.in-Ok.ensures in
    record {
      all = seats_kept s.hub s.lanes.items _ s.workers.items _ s.deliverer _ done.1.0.1 done.1.0.0 done.0.0
          (omega (arith, done.0.1, c.in-Ok.workers.ok.0, s.workers.ok.0)) done.1.1 s.all;
      count = count_kept s.hub s.lanes.items _ s.deliverer _ done.1.0.1 s.all.deliverer done.1.1 s.count;
    }
