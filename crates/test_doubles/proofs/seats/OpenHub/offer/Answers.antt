use Rattle.std.proofs.lemmas.List.{length-set}
use Rattle.std.proofs.Common.{ap, ◌∙◌}
use Rattle.hub_core.specs.Lanes.{lane_of}
use Rattle.test_doubles.proofs.OpenHubFacts.{lane_used}
use Rattle.test_doubles.proofs.seats.OpenHub.offer.Goals as goal

pub invariant_of-self-2 : goal.invariant_of-self-2
invariant_of-self-2 g c =
    let s = c.args.self.now in
    record {
      all = lane_used s.hub s.lanes.items s.workers.items s.deliverer c.args.lane c.index_mut.result.now c.submit.new.seat
          (c.submit.ensures.lane ∙ ap lane_of c.index_mut.ensures.value) c.submit.ensures.of_hub s.all;
      count = length-set s.lanes.items c.args.lane c.submit.new.seat ∙ s.count;
    }
