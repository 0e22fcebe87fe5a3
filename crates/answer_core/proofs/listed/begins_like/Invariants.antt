use Rattle.std.proofs.Common.{◌≡◌, length}
use Rattle.answer_core.specs.Listed.{begins_like}
use Rattle.answer_core.proofs.listed.begins_like.Given as goal

abbrev pub invariant-loop-left : goal.invariant-loop-left
invariant-loop-left l = begins_like l.left l.signs ≡ begins_like l.word l.list

abbrev pub decreases-loop-left : goal.decreases-loop-left
decreases-loop-left l = length l.left
