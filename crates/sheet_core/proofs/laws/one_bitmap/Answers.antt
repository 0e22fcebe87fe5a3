use Rattle.sheet_core.proofs.PrintedOnce.{one_bitmap as law}
use Rattle.sheet_core.proofs.laws.one_bitmap.Goals as goal

pub returns : goal.returns
returns c = law
