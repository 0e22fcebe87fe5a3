use Rattle.std.proofs.Common.{refl}
use Rattle.element_core.specs.Table.{last_families}
use Rattle.element_core.proofs.table.last_families.Goals as goal

pub returns : goal.returns
unfolding last_families
returns c = refl
