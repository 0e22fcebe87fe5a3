use Rattle.sheet_core.proofs.pbm.FilePieces.{headers_are_read as law}
use Rattle.sheet_core.proofs.laws.headers_are_read.Goals as goal

pub returns : goal.returns
returns c = law
