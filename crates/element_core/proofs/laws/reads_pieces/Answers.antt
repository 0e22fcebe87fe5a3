use Rattle.element_core.proofs.PieceLemmas.{reads_pieces}
use Rattle.element_core.proofs.laws.reads_pieces.Goals as goal

pub returns : goal.returns
returns c = reads_pieces
