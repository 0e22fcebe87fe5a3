use Rattle.scan_core.proofs.RunsOfDots.{dots_make_row as law}
use Rattle.scan_core.proofs.laws.dots_make_row.Goals as goal

pub returns : goal.returns
returns c = law
