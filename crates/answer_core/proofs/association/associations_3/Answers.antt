use Rattle.std.proofs.Common.{refl}
use Rattle.answer_core.specs.Associations.{associations_3}
use Rattle.answer_core.proofs.association.associations_3.Goals as goal

pub returns : goal.returns
unfolding associations_3
returns c = refl
