-- The law, as it is proved in `ScanOfPrinted`, by the law that is called.
use Rattle.command_runs.proofs.ScanOfPrinted.{one_scan as law}
use Rattle.command_runs.proofs.commands.scan.one_scan.Goals as goal

pub returns : goal.returns
returns c = law c.scanned_once.ensures
