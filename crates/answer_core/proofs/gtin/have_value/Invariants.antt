use Rattle.std.proofs.Common.{◌≡◌, length, map}
use Rattle.answer_core.specs.Places.{entry_at, have_value}
use Rattle.answer_core.proofs.gtin.have_value.Given as goal

abbrev pub invariant-loop-rest : goal.invariant-loop-rest
invariant-loop-rest l = have_value l.value (map (entry_at l.text) l.rest) ≡ have_value l.value (map (entry_at l.text) l.places)

abbrev pub decreases-loop-rest : goal.decreases-loop-rest
decreases-loop-rest l = length l.rest
