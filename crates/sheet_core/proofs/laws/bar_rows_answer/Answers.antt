use Rattle.sheet_core.proofs.BarRowShows.{bar_rows_answer as law}
use Rattle.sheet_core.proofs.laws.bar_rows_answer.Goals as goal

pub returns : goal.returns
returns c = law c.dots_determine.ensures (c.symbol_measures.ensures, c.measures_of_kind.ensures) c.modules_say.ensures c.one_answer.ensures
