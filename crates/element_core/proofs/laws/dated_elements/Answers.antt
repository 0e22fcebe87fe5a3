use Rattle.element_core.proofs.Dated.{dated_elements}
use Rattle.element_core.proofs.laws.dated_elements.Goals as goal

pub returns : goal.returns
returns c = dated_elements
