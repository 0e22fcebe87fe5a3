use Rattle.scan_core.proofs.SearchFindsSymbols.{turned_symbols}
use Rattle.scan_core.proofs.laws.turned_symbols.Goals as goal

pub returns : goal.returns
returns c = turned_symbols
