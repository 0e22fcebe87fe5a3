use Rattle.sheet_core.proofs.BarRowShows.{empty_cells_are_blank as law}
use Rattle.sheet_core.proofs.laws.empty_cells_are_blank.Goals as goal

pub returns : goal.returns
returns c = law
