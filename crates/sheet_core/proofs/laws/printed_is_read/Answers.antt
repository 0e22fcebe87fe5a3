use Rattle.sheet_core.proofs.pbm.WrittenFacts.{printed_is_read as law}
use Rattle.sheet_core.proofs.laws.printed_is_read.Goals as goal

pub returns : goal.returns
returns c = law
