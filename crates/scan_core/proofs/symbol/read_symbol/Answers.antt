use Rattle.std.proofs.Common.{◌≡◌, false, refl, subst, true}
use Rattle.scan_core.specs.Reading.{IsSymbolAs, ReadSymbol}
use Rattle.scan_core.specs.Reading.ReadSymbol.{Characters}
use Rattle.scan_core.specs.Showing.{IsSymbol}
use Rattle.scan_core.specs.inner.Reading.{found_of}
use Rattle.scan_core.proofs.symbol.read_symbol.Goals as goal

pub returns-in-Some-clause-found : goal.returns-in-Some-clause-found
returns-in-Some-clause-found c =
    subst (λ kind. c.put_number.result ≡ true → (symbol : ReadSymbol) × IsSymbolAs kind c.args.modules.now symbol
    × (c.put_number.new.found ≡ found_of c.args.carrier symbol)) c.in-Some.ensures
    (c.put_number.ensures.found c.in-Some.kind c.args.modules.now c.read_widths.ensures)

pub returns-in-Some-clause-none : goal.returns-in-Some-clause-none
returns-in-Some-clause-none c =
    subst (λ kind. c.put_number.result ≡ false → IsSymbol kind c.args.modules.now → ⊥) c.in-Some.ensures
    (c.put_number.ensures.none c.in-Some.kind c.args.modules.now c.read_widths.ensures)

pub returns-in-Some-values_of-clause-found : goal.returns-in-Some-values_of-clause-found
returns-in-Some-values_of-clause-found c = λ yes. (
  Characters c.in-Some-values_of.values,
  subst (λ kind. IsSymbolAs kind c.args.modules.now (Characters c.in-Some-values_of.values)) c.in-None.ensures c.in-Some-values_of.ensures.some,
  refl,
)
