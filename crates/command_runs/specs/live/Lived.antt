-- What a live input leaves of its wire.
use Rattle.std.specs.Prelude.{Bool, List, Result, IsErrOf, OnOk}
use Rattle.wire_core.specs.Events.{Event}
use Rattle.command_runs.specs.Runs.{TellsFault}
use Rattle.command_runs.specs.live.Text.{AnsweredAll, AnsweredWhole, IsFront, IsPrompt}
use Rattle.command_runs.specs.declared.live.terms.LiveTerms.{LiveTerms}
use Rattle.command_runs.specs.declared.live.fault.LiveFault.{LiveFault}
use Rattle.command_runs.specs.declared.live.fault.LiveFault.TheVariants.{ReadFault, WriteFault}

-- The wire did these reads and writes. At each read all records that had ended were answered, and at each moment what was written was a front of
-- the lines that answer what was read; at a regular end that is all of them and nothing more comes, and after a failed read those of all records that had
-- ended. If none had failed before, a fault of a read or a write comes exactly if one has failed.
pub record Lived {W : Type 0} (t : LiveTerms) (did : W → W → List Event → Type 0) (read_failed write_failed : W → Bool) (at_end : W → Type 0) (wire after : W)
    (result : Result (Unit {0}) LiveFault) : Type 0 where
  pub events : List Event
  pub were_done : did wire after events
  pub prompt : IsPrompt t.lanes t.form t.year events
  pub front : IsFront t.lanes t.form t.year events
  pub ok : OnOk result (AnsweredAll t.lanes t.form t.year events × at_end after)
  pub cut : IsErrOf result ReadFault → AnsweredWhole t.lanes t.form t.year events
  pub read : TellsFault read_failed wire after result ReadFault
  pub write : TellsFault write_failed wire after result WriteFault
