-- The thread begins with the seats of the hub and the traffic as it was.
use Rattle.std.proofs.Common.{◌≡◌, ◌∙◌, IfSome, refl, rules, subst}
use Rattle.hub_core.specs.Hubs.{IsDelivererOf, IsWorkerOf}
use Rattle.hub_core.specs.inner.Traffics.{AreOwnSeats, given_to, polled_by_each}
use Rattle.hub_core.proofs.traffic_serving.fn.serve_seats.task.Goals as goal
use Rattle.hub_core.proofs.ThreadGoesOn.{if_lost, left_lost}

pub returns : goal.returns
returns g c =
    let t = c.run-thread.result.0 in
    let run = c.run-thread.ensures in
    let start : c.of.result.value ≡ c.args.traffic.value = search rules in
    let keeps = run.seats in
    let hub = keeps.hub in
    let serves = subst (λ h. AreOwnSeats h t.lanes.items t.held) hub keeps.lanes in
    record {
      seats = (
        subst (λ h. IsDelivererOf h t.deliverer) hub keeps.deliverer,
        subst (λ h. IfSome t.own (IsWorkerOf h)) hub keeps.own,
        keeps.seats,
      );
      lanes = (t.held, serves);
      served = λ kept. record {
        held = t.held;
        serves = serves;
        came = subst (λ v. g.T.Traffic.Came v t.traffic.value (given_to t.lanes.items t.held) (polled_by_each t.lanes.items)) (keeps.start ∙ start)
            (run.serves kept).serves.came;
        done = λ ended. let end = run.done ended in (end.0, end.1.0, end.1.1);
      };
      lost = if_lost _ _ _ (left_lost _ _ _ _ _ _ refl start) run.lost;
    }
