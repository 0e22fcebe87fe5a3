-- All commands, and what the arguments of each ask for.
pub mod Checks
pub mod Lanes
pub mod Lives
pub mod Prints
pub mod Scans
use Rattle.std.specs.Prelude.{◌≡◌, ◌∷◌, [], Err, Ok, Result, true, List, codes}
use Rattle.clap.specs.Words.{App, Row, Text, new_app, with_subcommand}
use Rattle.command_line.specs.Arguments.{Choices, HasTerms, ais_choices}
use Rattle.command_line.specs.commands.Checks.{check_app}
use Rattle.command_line.specs.commands.Lanes.{HasLanes, lanes_app}
use Rattle.command_line.specs.commands.Lives.{HasLive, live_app}
use Rattle.command_line.specs.commands.Prints.{HasPrint, print_app}
use Rattle.command_line.specs.commands.Scans.{HasScan, scan_app}
use Rattle.command_line.specs.declared.commands.Asked.{Asked}
use Rattle.command_line.specs.declared.commands.Asked.TheVariants as asked
use Rattle.command_line.specs.declared.commands.WholeInput.{WholeInput}
use Rattle.command_line.specs.declared.commands.WholeInput.TheVariants as batch
use Rattle.command_line.specs.declared.commands.live.options.LiveOptions.{LiveOptions}

-- a command is required, there is no subcommand `help`, and `--version` prints the version
abbrev pub hub_top : App
hub_top = let fresh = new_app (codes "gs1_hub") in record fresh
    { top = record fresh.top { has_version = true; disable_help_subcommand = true; subcommand_required = true } }

-- the program with these commands added, in this order
abbrev pub with_commands : App → List App → App
with_commands a [] = a
with_commands a (c ∷ cs) = with_commands (with_subcommand a c.top) cs

-- all commands, whose `--ais` has these choices
abbrev pub hub_commands : Choices → List App
hub_commands choices = check_app choices ∷ print_app choices ∷ lanes_app choices ∷ scan_app choices ∷ live_app choices ∷ []

-- the program with these commands
abbrev pub hub_of : Choices → App
hub_of choices = with_commands hub_top (hub_commands choices)

-- the program with all its commands
abbrev pub hub_app : App
hub_app = hub_of ais_choices

-- the command of this name with its options
abbrev pub AsksIn : Text → List Row → Asked → Type 0
AsksIn name rows (asked.Check year) = (name ≡ codes "check") × HasTerms rows year
AsksIn name rows (asked.Print o) = (name ≡ codes "print") × HasPrint rows o
AsksIn name rows (asked.Lanes o) = (name ≡ codes "lanes") × HasLanes rows o
AsksIn name rows (asked.Scan o) = (name ≡ codes "scan") × HasScan rows o
AsksIn name rows (asked.Live o) = (name ≡ codes "live") × HasLive rows o

-- what the arguments ask for: a command that reads its whole input first, or the options of `live`
abbrev pub batch_of : Asked → Result WholeInput LiveOptions
batch_of (asked.Check year) = Ok (batch.Check year)
batch_of (asked.Print o) = Ok (batch.Print o)
batch_of (asked.Lanes o) = Ok (batch.Lanes o)
batch_of (asked.Scan o) = Ok (batch.Scan o)
batch_of (asked.Live o) = Err o
