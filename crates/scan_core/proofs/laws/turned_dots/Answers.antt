use Rattle.scan_core.proofs.DotFacts.{turned_dots as law}
use Rattle.scan_core.proofs.laws.turned_dots.Goals as goal

pub returns : goal.returns
returns c = law
