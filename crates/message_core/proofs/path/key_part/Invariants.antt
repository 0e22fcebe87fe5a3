use Rattle.std.proofs.Common.{◌≡◌, length}
use Rattle.message_core.specs.Links.{key_part, segments}
use Rattle.message_core.proofs.path.key_part.Given as goal

abbrev pub invariant-loop-rest : goal.invariant-loop-rest
invariant-loop-rest l = key_part (segments l.rest) ≡ key_part (segments l.path)

abbrev pub decreases-loop-rest : goal.decreases-loop-rest
decreases-loop-rest l = length l.rest
