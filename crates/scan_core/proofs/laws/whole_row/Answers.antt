use Rattle.scan_core.proofs.SearchFindsSymbols.{whole_row}
use Rattle.scan_core.proofs.laws.whole_row.Goals as goal

pub returns : goal.returns
returns c = whole_row
