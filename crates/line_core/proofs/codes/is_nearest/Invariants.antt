use Rattle.std.proofs.Common.{◌≢◌, ◌<◌, ℕ}
use Rattle.line_core.specs.Codes.{code_misfit_of, code_pattern}
use Rattle.line_core.proofs.codes.is_nearest.Given as goal

abbrev pub invariant-others : goal.invariant-others
invariant-others l = (other : ℕ) → other < l.other → other ≢ l.value → l.own < code_misfit_of l.seen l.ink (code_pattern other)
