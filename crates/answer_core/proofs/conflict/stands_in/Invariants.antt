use Rattle.std.proofs.Common.{◌≡◌, length, map}
use Rattle.answer_core.specs.Conflicts.{stands_in}
use Rattle.answer_core.specs.Places.{entry_at}
use Rattle.answer_core.proofs.conflict.stands_in.Given as goal

abbrev pub invariant-loop-rest : goal.invariant-loop-rest
invariant-loop-rest l = stands_in l.ai (map (entry_at l.text) l.rest) ≡ stands_in l.ai (map (entry_at l.text) l.places)

abbrev pub decreases-loop-rest : goal.decreases-loop-rest
decreases-loop-rest l = length l.rest
