use Rattle.sheet_core.proofs.BarRowShows.{bar_rows_show as law}
use Rattle.sheet_core.proofs.laws.bar_rows_show.Goals as goal

pub returns : goal.returns
returns c = law c.dots_determine.ensures (c.symbol_measures.ensures, c.measures_of_kind.ensures)
