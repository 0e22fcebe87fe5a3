use Rattle.scan_core.proofs.OneSymbolShown.{one_symbol as law}
use Rattle.scan_core.proofs.laws.one_symbol.Goals as goal

pub returns : goal.returns
returns c = law (record { ean = c.kind_is_one_way.ensures; code = c.one_way.ensures; measures = c.measures.ensures })
