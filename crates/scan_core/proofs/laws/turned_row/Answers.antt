use Rattle.scan_core.proofs.TurnedFacts.{turned_row as law}
use Rattle.scan_core.proofs.laws.turned_row.Goals as goal

pub returns : goal.returns
returns c = λ runs year answer row. law runs row year answer
