use Rattle.std.proofs.Common.{refl}
use Rattle.answer_core.specs.GtinUses.{short_prefixes}
use Rattle.answer_core.proofs.gtin_use.short_prefixes.Goals as goal

pub returns : goal.returns
unfolding short_prefixes
returns c = refl
