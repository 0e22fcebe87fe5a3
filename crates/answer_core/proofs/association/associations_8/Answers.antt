use Rattle.std.proofs.Common.{refl}
use Rattle.answer_core.specs.Associations.{associations_8}
use Rattle.answer_core.proofs.association.associations_8.Goals as goal

pub returns : goal.returns
unfolding associations_8
returns c = refl
