use Rattle.std.proofs.Common.{◌≡◌, ◌++◌, length, map}
use Rattle.answer_core.specs.Composed.{entry_given}
use Rattle.answer_core.proofs.compose.put_all_given.Given as goal

abbrev pub invariant-loop-rest : goal.invariant-loop-rest
invariant-loop-rest l = l.pairs.list ++ map entry_given l.rest ≡ map entry_given l.all

abbrev pub decreases-loop-rest : goal.decreases-loop-rest
decreases-loop-rest l = length l.rest
