-- How the program ends, and what it writes if the words ask for no command.
use Rattle.std.specs.Prelude.{◌≡◌, ℕ, Bool, false, true, List, Option, Result, Ok, Err, string_bytes}
use Rattle.std.specs.Io.KnownBytes.{Appends}
use Rattle.digits_core.specs.Bytes.{TookFront}
use Rattle.command_runs.specs.declared.fault.CommandFault.{CommandFault}
use Rattle.command_line.specs.declared.words.WordsFault.{WordsFault}
use Rattle.command_line.specs.declared.words.WordsFault.TheVariants as words

-- the status that the program ends with, after a command that has run
abbrev pub status_of : Result (Unit {0}) CommandFault → ℕ
status_of (Ok _) = 0
status_of (Err _) = 1

-- and if the words ask for none, by whether a write of the help failed
abbrev pub words_status : WordsFault → Bool → ℕ
words_status words.Words failed = 2
words_status words.NoMemory failed = 1
words_status (words.Help text) false = 0
words_status (words.Help text) true = 1

-- what a sink takes if the words ask for no command: the help that they ask for, or a prefix of it, if a write failed; and else nothing
abbrev pub TookHelp : WordsFault → Bool → Option (List ℕ) → Option (List ℕ) → Type 0
TookHelp (words.Help text) false before after = Appends before after (string_bytes text)
TookHelp (words.Help text) true before after = TookFront before after (string_bytes text)
TookHelp words.Words failed before after = after ≡ before
TookHelp words.NoMemory failed before after = after ≡ before
