use Rattle.std.proofs.Common.{refl}
use Rattle.answer_core.specs.Associations.{associations_7}
use Rattle.answer_core.proofs.association.associations_7.Goals as goal

pub returns : goal.returns
unfolding associations_7
returns c = refl
