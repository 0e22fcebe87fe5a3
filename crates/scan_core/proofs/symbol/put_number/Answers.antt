use Rattle.std.proofs.Common.{refl}
use Rattle.scan_core.specs.Reading.ReadSymbol.{Number}
use Rattle.scan_core.proofs.symbol.put_number.Goals as goal

pub returns-in-Found-clause-found : goal.returns-in-Found-clause-found
returns-in-Found-clause-found c = λ kind modules spelled yes. (Number c.in-Found.gtin, rw c.in-Found.is at spelled, refl)
