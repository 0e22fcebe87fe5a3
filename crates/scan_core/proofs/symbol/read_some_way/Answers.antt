use Rattle.std.proofs.Common.{subst}
use Rattle.scan_core.specs.Reading.{IsSymbolAs}
use Rattle.scan_core.specs.Showing.{kind_of}
use Rattle.scan_core.specs.Showing.Way.{Backwards}
use Rattle.scan_core.proofs.symbol.read_some_way.Goals as goal

pub returns-clause-found : goal.returns-clause-found
returns-clause-found c = λ yes.
    let found = c.read_symbol-2.ensures.found yes in
    (Backwards, found.0, subst (λ ms. IsSymbolAs (kind_of c.args.carrier) ms found.0) c.reverse.ensures.after found.1, found.2)
