use Rattle.wire_core.proofs.PieceFacts.{lines_are_pieces}
use Rattle.wire_core.proofs.laws.lines_are_pieces.Goals as goal

pub returns : goal.returns
returns c = lines_are_pieces
