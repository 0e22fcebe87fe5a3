use Rattle.element_core.proofs.PairFaults.{faultless_pairs}
use Rattle.element_core.proofs.laws.faultless_pairs.Goals as goal

pub returns : goal.returns
returns c = faultless_pairs
