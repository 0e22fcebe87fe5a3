use Rattle.sheet_core.proofs.BarRowShows.{drawn_is_read as law}
use Rattle.sheet_core.proofs.laws.drawn_is_read.Goals as goal

pub returns : goal.returns
returns c = law c.dots_determine.ensures (c.symbol_measures.ensures, c.measures_of_kind.ensures) c.modules_say.ensures c.one_answer.ensures
