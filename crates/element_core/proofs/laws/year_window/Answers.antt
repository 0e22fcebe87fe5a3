use Rattle.element_core.proofs.DayLaws.{year_window}
use Rattle.element_core.proofs.laws.year_window.Goals as goal

pub returns : goal.returns
returns c = year_window
