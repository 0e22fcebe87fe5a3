use Rattle.std.proofs.Common.{◌≡◌, length}
use Rattle.message_core.specs.Links.{follow_all, segments}
use Rattle.message_core.proofs.path.follow_all.Given as goal

abbrev pub invariant-loop-behind : goal.invariant-loop-behind
invariant-loop-behind l = follow_all l.key l.least (segments l.rest) ≡ follow_all l.key 0 (segments l.text)

abbrev pub decreases-loop-behind : goal.decreases-loop-behind
decreases-loop-behind l = length l.rest
