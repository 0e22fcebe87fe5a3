-- What holds at a regular end of a live input holds at that of its command.
use Rattle.std.proofs.Common.{◌≡◌, Result, Ok, Err, OnOk, subst, sym}
use Rattle.command_runs.specs.commands.Lives.{command_end}
use Rattle.command_runs.specs.declared.fault.CommandFault.{CommandFault}
use Rattle.command_runs.specs.declared.live.fault.LiveFault.{LiveFault}

pub at_end : {P Q : Type 0} → (P → Q) → (stopped : Result (Unit {0}) LiveFault) (result : Result (Unit {0}) CommandFault) → result ≡ command_end stopped
    → OnOk stopped P → OnOk result Q
at_end {P} {Q} f (Ok u) result is holds = subst (λ r. OnOk r Q) (sym is) (f holds)
at_end {P} {Q} f (Err fault) result is holds = subst (λ r. OnOk r Q) (sym is) tt
