use Rattle.scan_core.proofs.EarlierFacts.{other_rows_keep as law}
use Rattle.scan_core.proofs.laws.other_rows_keep.Goals as goal

pub returns : goal.returns
returns c = law
