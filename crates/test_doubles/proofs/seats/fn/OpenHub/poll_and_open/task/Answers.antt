use Rattle.std.proofs.Common.{set, ap, ◌∙◌}
use Rattle.std.proofs.Math.Seq.{map-set_same}
use Rattle.std.proofs.lemmas.List.Elements.{All-set}
use Rattle.hub_core.specs.Hubs.{IsLaneOf}
use Rattle.hub_core.specs.Lanes.{lane_of}
use Rattle.test_doubles.proofs.seats.fn.OpenHub.poll_and_open.task.Goals as goal

pub returns : goal.returns
returns g c =
    let items = c.args.lanes.items in
    let i = c.captures.free in
    let k = c.captures.held in
    let free = c.first_polled-polled.new.seat in
    let held = c.polls_nothing-is_held.new.seat in
    let mine = IsLaneOf c.captures.shared.now in
    record {
      lanes = (
        All-set mine (set items i free) k held c.polls_nothing-is_held.ensures.of_hub.0
            (All-set mine items i free c.first_polled-polled.ensures.of_hub.0 c.requires.0),
        map-set_same lane_of (set items i free) k held c.index_mut-2.result.now (c.polls_nothing-is_held.ensures.lane ∙ ap lane_of c.index_mut-2.ensures.value)
            ∙ map-set_same lane_of items i free c.index_mut.result.now (c.first_polled-polled.ensures.lane ∙ ap lane_of c.index_mut.ensures.value),
      );
      deliverer = c.polls_nothing-is_held.ensures.of_hub.1;
    }
