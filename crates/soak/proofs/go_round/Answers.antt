use Rattle.std.proofs.Common.{◌∙◌}
use Rattle.std.proofs.Math.Seq.{map-set_same}
use Rattle.std.proofs.lemmas.List.{length-set}
use Rattle.std.proofs.lemmas.List.Elements.{All-set}
use Rattle.hub_core.specs.Hubs.{IsLaneOf}
use Rattle.hub_core.specs.Lanes.{lane_of}
use Rattle.soak.proofs.go_round.Goals as goal

pub loop-lane-preserved : goal.loop-lane-preserved
loop-lane-preserved g c =
    let now = c.loop-lane.lane-items in
    let i = c.loop-lane.lane-index in
    let w = c.take_turn.new.lane in
    let was = c.loop-lane.invariant in
    record {
      count = length-set now i w ∙ was.count;
      lanes = All-set (λ x. IsLaneOf c.args.hub.now x.seat) now i w c.take_turn.ensures.lane.0 was.lanes;
      numbers = map-set_same (λ x. lane_of x.seat) now i w _ c.take_turn.ensures.lane.1 ∙ was.numbers;
      deliverer = c.take_turn.ensures.deliverer;
    }
