use Rattle.sheet_core.proofs.pbm.FileRefusals.{files_are_refused as law}
use Rattle.sheet_core.proofs.laws.files_are_refused.Goals as goal

pub returns : goal.returns
returns c = law
