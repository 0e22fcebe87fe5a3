-- How the answering of a live input ends, and why it does not begin (`live/answering.rt`).
use Rattle.std.specs.Prelude.{◌≡◌, ◌≢◌, ◌↔◌, IsErrOf, OnOk, Option, Some, None, Result}
use Rattle.hub_core.specs.declared.ended.Ended.{Ended}
use Rattle.hub_core.specs.declared.ended.Ended.TheVariants.{Done}
use Rattle.hub_core.specs.declared.fault.ServeFault.{ServeFault}
use Rattle.hub_core.specs.declared.fault.ServeFault.TheVariants as serve
use Rattle.command_runs.specs.declared.live.fault.LiveFault.{LiveFault}
use Rattle.command_runs.specs.declared.live.fault.LiveFault.TheVariants.{NoMemory, NoThread}

-- how it ended: at the end of its input if nothing has stopped it, else for what the live input reports, or for want of memory
pub record EndsAs {S B : Type 0} (stopped : Option LiveFault) (ended : Ended S B) (result : Result (Unit {0}) LiveFault) : Type 0 where
  pub done : OnOk result ((stopped ≡ None) × (ended ≡ Done))
  pub told : (f : LiveFault) → f ≢ NoMemory → (IsErrOf result f ↔ (stopped ≡ Some f))

-- a fault of a hub that did not begin, as the live input's (`answer_fault` of specs/inner/AnswerLines is the same for other rows); `serve_traffic` never
-- reports `BadCount`
abbrev pub live_fault : ServeFault → LiveFault
live_fault serve.NoThread = NoThread
live_fault serve.NoMemory = NoMemory
live_fault serve.BadCount = NoMemory
