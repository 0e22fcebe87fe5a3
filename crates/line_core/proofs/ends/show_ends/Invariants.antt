use Rattle.std.proofs.Common.{◌+◌, ◌<◌, ℕ}
use Rattle.line_core.specs.Ends.{IsEndOf, at}
use Rattle.line_core.proofs.ends.show_ends.Given as goal

abbrev pub invariant-ends : goal.invariant-ends
invariant-ends l = (number : ℕ) → number < l.number → IsEndOf l.values l.step (at l.turns number) (at l.turns (number + 1)) (at l.ends number) number
