-- The answer of `collect_by_lane` as that of `collect`.
use Rattle.hub_core.specs.declared.deliverer_seat.Collected.{Collected}
use Rattle.hub_core.specs.declared.deliverer_seat.Collected.TheVariants as collecting
use Rattle.hub_core.specs.declared.collected_by_lane.CollectedByLane.{CollectedByLane}
use Rattle.hub_core.specs.declared.collected_by_lane.CollectedByLane.TheVariants as by_lane

abbrev pub collected_as : CollectedByLane → Collected
collected_as by_lane.Nothing = collecting.Nothing
collected_as (by_lane.Taken _) = collecting.Taken
collected_as by_lane.NoMemory = collecting.NoMemory
