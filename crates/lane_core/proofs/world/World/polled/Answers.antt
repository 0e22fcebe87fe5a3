-- The lane at this place shows what the machine's has polled (`seen_at`).
use Rattle.std.proofs.Common.{◌<◌, length, sym}
use Rattle.std.proofs.lemmas.List.{length-take-le}
use Rattle.lane_core.proofs.HeldFacts.{count_held}
use Rattle.lane_core.proofs.SeenFacts.{seen_at}
use Rattle.lane_core.proofs.world.World.polled.Goals as goal

pub slice_bounds-result-end : goal.slice_bounds-result-end
slice_bounds-result-end c =
    let x = c.index-lane.result.now in
    let less : c.args.lane < length c.self.inside.lanes.items = rw (← c.self.view_is, count_held) at c.requires in
    let few = (seen_at c.self.inside c.args.lane x less c.index-lane.ensures c.self.invariant.0 c.self.invariant.1 c.self.invariant.2).few in
    rw c.deref.ensures.value (sym (length-take-le x.polled x.handed.items few))

pub returns-clause-polled : goal.returns-clause-polled
returns-clause-polled c =
    let x = c.index-lane.result.now in
    let less : c.args.lane < length c.self.inside.lanes.items = rw (← c.self.view_is, count_held) at c.requires in
    rw (← c.self.view_is)
    (rw c.deref.ensures.value (λ s reached shows. (seen_at c.self.inside c.args.lane x less c.index-lane.ensures s reached shows).list))
