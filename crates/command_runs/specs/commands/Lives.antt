-- What a run of the command `live` leaves.
use Rattle.std.specs.Prelude.{◌≡◌, Bool, List, Result, Ok, Err}
use Rattle.wire_core.specs.Events.{Event}
use Rattle.command_runs.specs.live.Lived.{Lived}
use Rattle.command_runs.specs.declared.live.terms.LiveTerms.{LiveTerms}
use Rattle.command_runs.specs.declared.live.fault.LiveFault.{LiveFault}
use Rattle.command_runs.specs.Faults.{of_live}
use Rattle.command_runs.specs.declared.fault.CommandFault.{CommandFault}
use Rattle.command_line.specs.declared.commands.live.options.LiveOptions.{LiveOptions}

-- the options, as the terms of `answer_live`
abbrev pub live_terms : LiveOptions → LiveTerms
live_terms o = record { lanes = o.rows.lanes; workers = o.rows.workers; year = o.rows.year; form = o.form }

-- an end, with its fault as the command's
abbrev pub command_end : Result (Unit {0}) LiveFault → Result (Unit {0}) CommandFault
command_end (Ok u) = Ok u
command_end (Err fault) = Err (of_live fault)

-- what a run of `live` leaves of its wire: what a live input leaves of it, with the same end
abbrev pub IsLive : {W : Type 0} → LiveOptions → (W → W → List Event → Type 0) → (W → Bool) → (W → Bool) → (W → Type 0) → W → W → Result (Unit {0}) CommandFault
    → Type 0
IsLive o did read_failed write_failed at_end wire after result =
    (stopped : Result (Unit {0}) LiveFault) × Lived (live_terms o) did read_failed write_failed at_end wire after stopped × (result ≡ command_end stopped)
