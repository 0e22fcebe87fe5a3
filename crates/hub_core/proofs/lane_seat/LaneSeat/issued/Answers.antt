use Rattle.std.proofs.Common.{arith}
use Rattle.hub_core.proofs.lane_seat.LaneSeat.issued.Goals as goal

pub returns-clause-polled : goal.returns-clause-polled
returns-clause-polled c =
    let s = c.args.self.now in
    record { numbers = s.polled_in_order; most = omega (arith, s.polled_issued, s.counted, s.polls_counted) }
