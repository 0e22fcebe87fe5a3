use Rattle.element_core.proofs.PairFaults.{pair_lengths, pairs_as_texts, unknown_pairs}
use Rattle.element_core.proofs.laws.pair_faults.Goals as goal

pub returns-clause-unknown : goal.returns-clause-unknown
returns-clause-unknown c = unknown_pairs

pub returns-clause-lengths : goal.returns-clause-lengths
returns-clause-lengths c = pair_lengths

pub returns-clause-texts : goal.returns-clause-texts
returns-clause-texts c = pairs_as_texts
