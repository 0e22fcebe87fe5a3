use Rattle.sheet_core.proofs.OneLabelSymbol.{same_drawn}
use Rattle.sheet_core.proofs.laws.one_drawn.Goals as goal

pub returns : goal.returns
returns c = same_drawn
