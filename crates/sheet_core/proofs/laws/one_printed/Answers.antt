use Rattle.sheet_core.proofs.PrintedOnce.{one_printed as law}
use Rattle.sheet_core.proofs.laws.one_printed.Goals as goal

pub returns : goal.returns
returns c = law
