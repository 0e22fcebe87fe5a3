-- The lane at this place shows whether the machine's is closed (`seen_at`).
use Rattle.std.proofs.Common.{◌<◌, length}
use Rattle.lane_core.proofs.HeldFacts.{count_held}
use Rattle.lane_core.proofs.SeenFacts.{seen_at}
use Rattle.lane_core.proofs.world.World.is_closed.Goals as goal

pub returns : goal.returns
returns c =
    let x = c.index.result.now in
    let less : c.args.lane < length c.self.inside.lanes.items = rw (← c.self.view_is, count_held) at c.requires in
    rw (← c.self.view_is) (λ s reached shows. (seen_at c.self.inside c.args.lane x less c.index.ensures s reached shows).closed)
