-- Words for types, private contracts and proofs, beside `Asking`.
use Rattle.std.specs.Prelude.{◌≡◌, ◌≢◌, ◌⊎◌, ◌∷◌, [], false, map, true}
use Rattle.clap.specs.Words.{App}
use Rattle.clap.specs.declared.error.kind.ErrorKind.{ErrorKind}
use Rattle.clap.specs.declared.error.kind.ErrorKind.TheVariants as kind
use Rattle.command_line.specs.declared.words.WordsFault.{WordsFault}
use Rattle.command_line.specs.declared.words.WordsFault.TheVariants as fault
use Rattle.command_line.specs.Arguments.{Choices, ais_text}
use Rattle.command_line.specs.Asking.{IsRequest}
use Rattle.command_line.specs.commands.{hub_of}

-- which kind of `clap` error each `WordsFault` stands for
abbrev pub FaultOfKind : ErrorKind → WordsFault → Type 0
FaultOfKind k fault.Words = (k ≢ kind.OutOfMemory) × (IsRequest k → ⊥)
FaultOfKind k (fault.Help text) = IsRequest k
FaultOfKind k fault.NoMemory = (k ≡ kind.OutOfMemory) ⊎ IsRequest k

-- the choices of `--ais`, wherever they are in memory
abbrev pub AreAisChoices : Choices → Type 0
AreAisChoices choices = map (λ c. c.now) choices.now ≡ ais_text false ∷ ais_text true ∷ []

-- the program with its commands, wherever they are in memory
abbrev pub IsHub : App → Type 0
IsHub a = (choices : Choices) × AreAisChoices choices × (a ≡ hub_of choices)
