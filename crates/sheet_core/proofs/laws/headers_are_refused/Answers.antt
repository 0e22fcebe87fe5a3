use Rattle.sheet_core.proofs.pbm.HeaderRefusals.{headers_are_refused as law}
use Rattle.sheet_core.proofs.laws.headers_are_refused.Goals as goal

pub returns : goal.returns
returns c = law
