use Rattle.scan_core.proofs.SearchFindsSymbols.{symbols_are_told}
use Rattle.scan_core.proofs.laws.symbols_are_told.Goals as goal

pub returns : goal.returns
returns c = symbols_are_told c.one_answer.ensures
