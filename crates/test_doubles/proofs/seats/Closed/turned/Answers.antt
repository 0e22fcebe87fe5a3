use Rattle.std.proofs.Common.{reverse, subst, sym}
use Rattle.hub_core.specs.Hubs.{AreAllSeats}
use Rattle.test_doubles.proofs.OpenHubFacts.{seats_turned}
use Rattle.test_doubles.proofs.seats.Closed.turned.Goals as goal

pub invariant_of-self : goal.invariant_of-self
invariant_of-self c =
    let s = c.args.self in
    record {
      all = subst (λ ls. AreAllSeats s.hub ls c.reverse-2.new.self.items s.deliverer) (sym c.reverse.ensures.items)
          (subst (λ ws. AreAllSeats s.hub (reverse s.lanes.items) ws s.deliverer) (sym c.reverse-2.ensures.items)
          (seats_turned s.hub s.lanes.items s.workers.items s.deliverer s.all));
    }
