use Rattle.digits_core.proofs.GtinFacts.{gtins_are_checked as law}
use Rattle.digits_core.proofs.laws.gtins_are_checked.Goals as goal

pub returns : goal.returns
returns c = law
