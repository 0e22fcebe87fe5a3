-- The fields of a new world hold the start.
use Rattle.lane_core.proofs.WorldShowsNext.{start_is_shown, start_shown}
use Rattle.lane_core.proofs.world.World.new.Goals as goal

pub invariant_of-result : goal.invariant_of-result
invariant_of-result c =
    rw (c.in_ok-deliverer.ensures, c.in_ok-open_lanes.ensures, c.in_ok-idle_workers.ensures, c.new-2.ensures.items, c.new-3.ensures.items)
    (start_is_shown c.args.lanes c.args.workers c.args.year)

pub returns-clause-shows : goal.returns-clause-shows
returns-clause-shows c =
    rw (c.in_ok-deliverer.ensures, c.in_ok-open_lanes.ensures, c.in_ok-idle_workers.ensures, c.new-2.ensures.items, c.new-3.ensures.items)
    (start_shown c.args.lanes c.args.workers c.args.year)
