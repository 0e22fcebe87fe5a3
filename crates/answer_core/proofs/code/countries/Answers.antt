use Rattle.std.proofs.Common.{refl}
use Rattle.answer_core.specs.Codes.{countries}
use Rattle.answer_core.proofs.code.countries.Goals as goal

pub returns : goal.returns
unfolding countries
returns c = refl
