use Rattle.element_core.proofs.GtinLemmas.{gtin_reads as law}
use Rattle.element_core.proofs.laws.gtin_reads.Goals as goal

pub returns : goal.returns
returns c = law
