-- What the errors of `clap` say of words.
use Rattle.std.proofs.Common.{◌≡◌, List, inl, inr, subst}
use Rattle.clap.specs.Words.{App, HasKind, Text, fault_of, kind_of}
use Rattle.clap.specs.declared.error.Error.{Error}
use Rattle.command_line.specs.Asking.{Explains}
use Rattle.command_line.specs.inner.Asking.{FaultOfKind}
use Rattle.command_line.specs.commands.{hub_app}
use Rattle.command_line.specs.declared.words.WordsFault.{WordsFault}
use Rattle.command_line.specs.declared.words.WordsFault.TheVariants as fault

-- what the fault says of the words
explained : (words : List Text) (e : Error) (f : WordsFault) → HasKind (fault_of hub_app words) e → FaultOfKind (kind_of e) f → Explains words f
explained words e fault.Words (inl h) k = absurd (k.0 h)
explained words e fault.Words (inr h) k = (kind_of e, h, k.1)
explained words e (fault.Help text) (inl h) k = absurd (elim k [
  | inl help ↦ cc (h, help)
  | inr version ↦ cc (h, version)
])
explained words e (fault.Help text) (inr h) k = (kind_of e, h, k)
explained words e fault.NoMemory h k = tt

-- by the command that was built, whose faults are those of the program
pub explained_of : (a : App) (words : List Text) (e : Error) (f : WordsFault) → fault_of a words ≡ fault_of hub_app words
    → HasKind (fault_of a words) e → FaultOfKind (kind_of e) f
    → Explains words f
explained_of a words e f is h k = explained words e f (subst (λ kinds. HasKind kinds e) is h) k
