use Rattle.std.proofs.Common.{◌≡◌, replicate}
use Rattle.sheet_core.proofs.line.light_line.Given as goal

abbrev pub invariant-loop : goal.invariant-loop
invariant-loop l = l.line.items ≡ replicate l.counter 0
