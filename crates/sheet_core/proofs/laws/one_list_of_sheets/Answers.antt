use Rattle.sheet_core.proofs.pbm.FilePieces.{one_reading as law}
use Rattle.sheet_core.proofs.laws.one_list_of_sheets.Goals as goal

pub returns : goal.returns
returns c = law
