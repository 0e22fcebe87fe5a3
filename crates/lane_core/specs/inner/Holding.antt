-- The invariant of `World`: what its fields hold shows a state of the machine.
use Rattle.lane_core.specs.declared.world.World.TheInside.{Inside}
use Rattle.lane_core.specs.Contents.{IsShown}
use Rattle.lane_core.specs.Holding.{held}

-- what the fields hold shows a state that some events lead to
abbrev pub HoldsShown : Inside → Type 0
HoldsShown w = IsShown (held w)
