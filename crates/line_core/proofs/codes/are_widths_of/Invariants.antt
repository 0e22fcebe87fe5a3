use Rattle.std.proofs.Common.{◌≡◌, ◌+◌, ◌*◌, ◌<◌, ℕ}
use Rattle.line_core.specs.Codes.{code_pattern}
use Rattle.line_core.specs.Ends.{at}
use Rattle.line_core.proofs.codes.are_widths_of.Given as goal

abbrev pub invariant-runs : goal.invariant-runs
invariant-runs l = (run : ℕ) → run < l.run → at l.widths (l.first + run) ≡ 48 * at (code_pattern l.value) run
