-- The arguments of `live`.
use Rattle.std.specs.Prelude.{◌++◌, ◌∷◌, [], List, codes}
use Rattle.clap.specs.Words.{App, Row, new_app}
use Rattle.command_line.specs.Arguments.{Choices, HasFlag, asks_elements, flag_rule, lane_row_rules, with_rules}
use Rattle.command_line.specs.commands.Lanes.{HasLanes}
use Rattle.command_line.specs.declared.commands.live.options.LiveOptions.{LiveOptions}

-- `live --lanes N --workers K --year Y [--ais A] [--elements]`
abbrev pub live_app : Choices → App
live_app choices = with_rules (new_app (codes "live")) (lane_row_rules choices ++ flag_rule (codes "elements") ∷ [])

-- its options in the matches: those of `lanes`, and the flag
abbrev pub HasLive : List Row → LiveOptions → Type 0
HasLive rows o = HasLanes rows o.rows × HasFlag (codes "elements") rows (asks_elements o.form)
