-- What the arguments ask for.
use Rattle.std.specs.Prelude.{◌≡◌, ◌⊎◌, ⊤, List, [], Option, Some, None}
use Rattle.clap.specs.Words.{IsAmong, Row, Text, fault_of, subcommand_of}
use Rattle.clap.specs.declared.error.kind.ErrorKind.{ErrorKind}
use Rattle.clap.specs.declared.error.kind.ErrorKind.TheVariants as kind
use Rattle.command_line.specs.commands.{AsksIn, hub_app}
use Rattle.command_line.specs.declared.commands.Asked.{Asked}
use Rattle.command_line.specs.declared.words.WordsFault.{WordsFault}
use Rattle.command_line.specs.declared.words.WordsFault.TheVariants as fault

-- the command and its numbers, from the name and the matches of a subcommand
abbrev pub Asks : Option (Text × List Row) → Asked → Type 0
Asks None a = ⊥
Asks (Some p) a = AsksIn p.0 p.1 a

-- `clap` accepts the arguments, and they ask for this command
abbrev pub WordsAsk : List Text → Asked → Type 0
WordsAsk words a = (fault_of hub_app words ≡ []) × Asks (subcommand_of hub_app words) a

-- the arguments ask for help, or for the version
abbrev pub IsRequest : ErrorKind → Type 0
IsRequest k = (k ≡ kind.DisplayHelp) ⊎ (k ≡ kind.DisplayVersion)

-- `clap` reports an error in the arguments other than a request for help
abbrev pub AreFaulty : List Text → Type 0
AreFaulty words = (k : ErrorKind) × IsAmong k (fault_of hub_app words) × (IsRequest k → ⊥)

-- the arguments ask for help
abbrev pub AskForHelp : List Text → Type 0
AskForHelp words = (k : ErrorKind) × IsAmong k (fault_of hub_app words) × IsRequest k

-- what each `WordsFault` says about the arguments
abbrev pub Explains : List Text → WordsFault → Type 0
Explains words fault.Words = AreFaulty words
Explains words (fault.Help text) = AskForHelp words
Explains words fault.NoMemory = ⊤
