-- A law about the arguments.
use Rattle.std.specs.Prelude.{◌≡◌, List, []}
use Rattle.clap.specs.Words.{Text, fault_of}
use Rattle.command_line.specs.Asking.{WordsAsk}
use Rattle.command_line.specs.commands.{hub_app}
use Rattle.command_line.specs.declared.commands.Asked.{Asked}

-- arguments that `clap` accepts ask for a command with its numbers
abbrev pub TakenAsk : Type 0
TakenAsk = (words : List Text) → fault_of hub_app words ≡ [] → (asked : Asked) × WordsAsk words asked
