use Rattle.scan_core.proofs.DotFacts.{dots_determine as law}
use Rattle.scan_core.proofs.laws.dots_determine.Goals as goal

pub returns : goal.returns
returns c = law
