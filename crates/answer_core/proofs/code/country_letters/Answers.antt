use Rattle.std.proofs.Common.{refl}
use Rattle.answer_core.specs.Codes.{country_letters}
use Rattle.answer_core.proofs.code.country_letters.Goals as goal

pub returns : goal.returns
unfolding country_letters
returns c = refl
