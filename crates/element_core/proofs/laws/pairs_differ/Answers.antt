use Rattle.element_core.proofs.PairsApart.{pairs_differ}
use Rattle.element_core.proofs.laws.pairs_differ.Goals as goal

pub returns : goal.returns
returns c = pairs_differ
