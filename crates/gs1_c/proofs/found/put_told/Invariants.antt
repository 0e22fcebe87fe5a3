use Rattle.gs1_c.proofs.ToldFacts.{Told, left_of}
use Rattle.gs1_c.proofs.found.put_told.Given as goal

abbrev pub invariant-symbols : goal.invariant-symbols
invariant-symbols g l = Told (g.S.SymbolSearch.rest l.fn.search) (g.S.SymbolSearch.rest l.search) l.end l.fn.out l.out

abbrev pub decreases-symbols : goal.decreases-symbols
decreases-symbols g l = left_of (g.S.SymbolSearch.rest l.search)
