use Rattle.std.proofs.Common.{◌+◌, ◌*◌, ◌<◌, ℕ}
use Rattle.line_core.specs.Pairs.{IsFiveAt}
use Rattle.line_core.proofs.pairs.show_fives.Given as goal

abbrev pub invariant-pairs : goal.invariant-pairs
invariant-pairs l = (number : ℕ) → number < l.number → IsFiveAt l.ends l.widths l.narrow l.wide l.colour (4 + 10 * number)
