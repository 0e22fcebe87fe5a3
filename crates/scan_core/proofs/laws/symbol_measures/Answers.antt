use Rattle.std.proofs.Common.{ℕ, List, Option, Some, None, length, sum}
use Rattle.ean_code.specs.Laws.{MeasuresOfKind}
use Rattle.ean_code.specs.declared.kind.Kind.{Kind}
use Rattle.code128_code.specs.Laws.{Measures}
use Rattle.scan_core.specs.Showing.{HasSize, IsSymbol, kind_of}
use Rattle.scan_core.proofs.OneSymbolShown.{code_measures}
use Rattle.scan_core.proofs.laws.symbol_measures.Goals as goal

law : MeasuresOfKind → Measures → (kind : Option Kind) (ms : List ℕ) → IsSymbol kind ms → HasSize kind (length ms) (sum ms)
law ean code (Some kind) ms form = let m = ean kind ms form.0 form.1 in (m.count, m.total)
law ean code None ms form = code_measures code ms form

pub returns : goal.returns
returns c = λ carrier. law c.measures_of_kind.ensures c.measures.ensures (kind_of carrier)
