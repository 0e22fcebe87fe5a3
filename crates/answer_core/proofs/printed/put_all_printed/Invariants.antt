use Rattle.std.proofs.Common.{◌≡◌, ◌++◌, length}
use Rattle.answer_core.specs.Printed.{printed}
use Rattle.answer_core.proofs.printed.put_all_printed.Given as goal

abbrev pub invariant-loop-rest : goal.invariant-loop-rest
invariant-loop-rest l = l.pairs.list ++ printed l.marks l.rest ≡ printed l.marks l.text

abbrev pub decreases-loop-rest : goal.decreases-loop-rest
decreases-loop-rest l = length l.rest
