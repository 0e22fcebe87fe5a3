-- The law, as it is proved in `RecordsAreLines`.
use Rattle.command_runs.proofs.live.RecordsAreLines.{lines_are_records}
use Rattle.command_runs.proofs.live.laws.lines_are_records.Goals as goal

pub returns : goal.returns
returns c = lines_are_records
