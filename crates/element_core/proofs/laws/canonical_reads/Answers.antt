use Rattle.element_core.proofs.Canonical.{canonical_law}
use Rattle.element_core.proofs.laws.canonical_reads.Goals as goal

pub returns : goal.returns
returns c = canonical_law
