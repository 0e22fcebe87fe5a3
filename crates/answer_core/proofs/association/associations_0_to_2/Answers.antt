use Rattle.std.proofs.Common.{refl}
use Rattle.answer_core.specs.Associations.{associations_0_to_2}
use Rattle.answer_core.proofs.association.associations_0_to_2.Goals as goal

pub returns : goal.returns
unfolding associations_0_to_2
returns c = refl
