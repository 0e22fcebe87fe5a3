use Rattle.std.proofs.Common.{◌≡◌, length, map}
use Rattle.answer_core.specs.GtinUses.{use_in}
use Rattle.answer_core.specs.inner.GtinUses.{prefixes_of}
use Rattle.answer_core.proofs.gtin_use.use_in.Given as goal

abbrev pub invariant-loop-rest : goal.invariant-loop-rest
invariant-loop-rest l = use_in l.digits (map prefixes_of l.rest) ≡ use_in l.digits (map prefixes_of l.list)

abbrev pub decreases-loop-rest : goal.decreases-loop-rest
decreases-loop-rest l = length l.rest
