use Rattle.std.proofs.Common.{refl}
use Rattle.element_core.specs.Table.{first_families}
use Rattle.element_core.proofs.table.first_families.Goals as goal

pub returns : goal.returns
unfolding first_families
returns c = refl
