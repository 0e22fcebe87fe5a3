-- The law, as it is proved in `ReorderedReport`, by the law that is called.
use Rattle.command_runs.proofs.live.ReorderedReport.{lines_are_report}
use Rattle.command_runs.proofs.live.laws.lines_are_report.Goals as goal

pub returns : goal.returns
returns c = lines_are_report c.messages_are_no_rows.ensures
