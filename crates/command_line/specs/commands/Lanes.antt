-- The arguments of `lanes`.
use Rattle.std.specs.Prelude.{List, codes}
use Rattle.clap.specs.Words.{App, Row, new_app}
use Rattle.command_line.specs.Arguments.{Choices, HasNumber, HasTerms, HasWorkers, IsLaneCount, lane_row_rules, with_rules}
use Rattle.command_line.specs.declared.commands.lanes.options.LaneOptions.{LaneOptions}

-- `lanes --lanes N --workers K --year Y [--ais A]`
abbrev pub lanes_app : Choices → App
lanes_app choices = with_rules (new_app (codes "lanes")) (lane_row_rules choices)

-- its options in the matches, each in its range
abbrev pub HasLanes : List Row → LaneOptions → Type 0
HasLanes rows o = HasNumber (codes "lanes") rows o.lanes × IsLaneCount o.lanes × HasWorkers rows o.workers × HasTerms rows o.year
