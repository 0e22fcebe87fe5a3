use Rattle.sheet_core.proofs.pbm.WrittenFacts.{images_read}
use Rattle.sheet_core.proofs.laws.written_is_read.Goals as goal

pub returns : goal.returns
returns c = images_read 4096
