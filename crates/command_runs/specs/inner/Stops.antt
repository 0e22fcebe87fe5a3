-- Why a live input is answered no longer, and what its wire reports of it (`live/fault.rt`).
use Rattle.std.specs.Prelude.{◌≡◌, ◌⊎◌, ◌↔◌, Bool, true, false, Option, Some, None}
use Rattle.command_runs.specs.declared.live.fault.LiveFault.{LiveFault}
use Rattle.command_runs.specs.declared.live.fault.LiveFault.TheVariants.{NoMemory}

-- nothing has stopped, or memory alone was refused
abbrev pub MayStillWrite : Option LiveFault → Type 0
MayStillWrite stopped = (stopped ≡ None) ⊎ (stopped ≡ Some NoMemory)

-- if nothing had failed at first, it has stopped for this fault exactly if something has failed: `TellsFault` of specs/Runs, before there is a result
abbrev pub StopsFor : Bool → Bool → Option LiveFault → LiveFault → Type 0
StopsFor at_first now stopped fault = at_first ≡ false → (stopped ≡ Some fault ↔ (now ≡ true))
