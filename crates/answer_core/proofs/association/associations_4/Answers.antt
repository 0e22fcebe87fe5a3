use Rattle.std.proofs.Common.{refl}
use Rattle.answer_core.specs.Associations.{associations_4}
use Rattle.answer_core.proofs.association.associations_4.Goals as goal

pub returns : goal.returns
unfolding associations_4
returns c = refl
