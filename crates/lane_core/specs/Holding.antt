-- What contracts see of a world: its fields as `Contents`.
use Rattle.std.specs.Prelude.{map}
use Rattle.lane_core.specs.declared.lane.Lane.{Lane}
use Rattle.lane_core.specs.declared.world.World.TheInside.{Inside}
use Rattle.lane_core.specs.Contents.{Contents, LaneContents, contents, lane_contents}

-- the fields of a lane
abbrev pub lane_held : Lane → LaneContents
lane_held l = lane_contents l.closed l.issued l.handed.items l.polled

-- the fields of a world: its view
abbrev pub held : Inside → Contents
held w = contents w.year (map lane_held w.lanes.items) w.jobs.items w.workers.items w.results.items w.deliverer
