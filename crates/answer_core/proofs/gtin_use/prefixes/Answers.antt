use Rattle.std.proofs.Common.{refl}
use Rattle.answer_core.specs.GtinUses.{prefixes}
use Rattle.answer_core.proofs.gtin_use.prefixes.Goals as goal

pub returns : goal.returns
unfolding prefixes
returns c = refl
