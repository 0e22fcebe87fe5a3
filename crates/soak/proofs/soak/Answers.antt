use Rattle.std.proofs.Common.{All, arith, subst, sym}
use Rattle.hub_core.specs.Hubs.{AreAllSeats, IsDelivererOf, IsLaneOf, IsWorkerOf}
use Rattle.soak.proofs.LaneFacts.{all_seats_kept, seats_are}
use Rattle.soak.proofs.soak.Goals as goal

pub run_all-requires-after_bounds : goal.run_all-requires-after_bounds
run_all-requires-after_bounds g c κs within =
    let hub = c.args.hub in
    let lanes = c.in_ok-lanes.lanes.items in
    let all : All (λ l. IsLaneOf hub l.seat) lanes × All (IsWorkerOf hub) c.args.workers.items × IsDelivererOf hub c.args.deliverer =
    (seats_are hub lanes (subst (All (IsLaneOf hub)) (sym c.in_ok-lanes.ensures) c.requires.lanes), c.requires.workers, c.requires.deliverer) in
    all

pub settle-requires : goal.settle-requires
settle-requires g c =
    let hub = c.args.hub in
    let ran = c.in_ok-ran.ensures in
    subst (λ ls. AreAllSeats hub ls c.in_ok-ran.workers.items c.in_ok-ran.deliverer) (sym c.in_ok-closed.ensures)
    (all_seats_kept hub c.args.seats.items c.args.workers.items c.in_ok-ran.workers.items c.args.deliverer c.in_ok-ran.deliverer c.in_ok-lanes.lanes.items c.in_ok-ran.ran.items
    c.requires c.in_ok-lanes.ensures ran.numbers ran.lanes ran.workers.0 (omega (arith, ran.workers.1, c.in_ok-ran.workers.ok.0, c.args.workers.ok.0)) ran.deliverer)
