use Rattle.std.proofs.Common.{◌∙◌, sym, ap}
use Rattle.hub_core.proofs.LanesAreCounted.{lanes_counted}
use Rattle.test_doubles.proofs.seats.OpenHub.new.Goals as goal

pub invariant_of-result : goal.invariant_of-result
invariant_of-result g c = record {
  all = c.in-Ok.ensures.new.seats;
  count = lanes_counted c.in-Ok.parts.lanes.items _ c.in-Ok.ensures.new.lanes
      ∙ sym (c.in-Ok.ensures.new.seats.deliverer.lanes ∙ ap (λ shape. shape.lanes) c.in-Ok.ensures.new.shape);
}
