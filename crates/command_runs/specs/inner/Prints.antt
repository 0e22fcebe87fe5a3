-- What is written of labels (`commands/print.rt`).
use Rattle.std.specs.Prelude.{◌≡◌, ◌≢◌, ℕ, Bool, List, Option, Result, IfErr, IsErrOf, OnOk}
use Rattle.std.specs.Io.KnownBytes.{Appends}
use Rattle.digits_core.specs.Bytes.{TookFront}
use Rattle.sheet_core.specs.Grids.{Cells}
use Rattle.sheet_core.specs.declared.label.Label.{Label}
use Rattle.command_runs.specs.Runs.{TellsFault}
use Rattle.command_runs.specs.commands.Prints.{IsPrinted, IsUnprinted}
use Rattle.command_runs.specs.declared.fault.CommandFault.{CommandFault}
use Rattle.command_runs.specs.declared.fault.CommandFault.TheVariants as command
use Rattle.command_line.specs.declared.commands.print.options.Output.{Output}

-- P is true of a text that is written of labels
abbrev pub Prints : Cells → Output → List Label → (List ℕ → Type 0) → Type 0
Prints g o labels P = (text : List ℕ) × IsPrinted g o labels text × P text

-- what a writing of labels leaves of a sink: it took all that is written of them; or a prefix of it, if a write failed; or nothing
pub record LeavesPrinted {W : Type 0} (g : Cells) (o : Output) (labels : List Label) (taken : W → Option (List ℕ)) (failed : W → Bool) (sink after : W)
    (result : Result (Unit {0}) CommandFault) : Type 0 where
  pub ok : OnOk result (Prints g o labels (Appends (taken sink) (taken after)))
  pub cut : IsErrOf result command.WriteFault → Prints g o labels (TookFront (taken sink) (taken after))
  pub refused : IfErr result (IsUnprinted g labels)
  pub unwritten : IfErr result (λ f. f ≢ command.WriteFault → after ≡ sink)
  pub write : TellsFault failed sink after result command.WriteFault
