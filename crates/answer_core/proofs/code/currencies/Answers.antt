use Rattle.std.proofs.Common.{refl}
use Rattle.answer_core.specs.Codes.{currencies}
use Rattle.answer_core.proofs.code.currencies.Goals as goal

pub returns : goal.returns
unfolding currencies
returns c = refl
