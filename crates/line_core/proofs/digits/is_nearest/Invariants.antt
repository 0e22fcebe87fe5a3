use Rattle.std.proofs.Common.{◌≢◌, ◌<◌, ℕ}
use Rattle.line_core.specs.Digits.{digit_pattern, misfit_of}
use Rattle.line_core.proofs.digits.is_nearest.Given as goal

abbrev pub invariant-others : goal.invariant-others
invariant-others l = (other : ℕ) → other < l.other → other ≢ l.character → l.own < misfit_of l.seen l.ink (digit_pattern other)
