use Rattle.std.proofs.Common.{◌≢◌, ◌<◌, ℕ}
use Rattle.ean_code.specs.TwoOfFive.{five_widths}
use Rattle.line_core.specs.Pairs.{pair_misfit}
use Rattle.line_core.proofs.pairs.is_nearest.Given as goal

abbrev pub invariant-others : goal.invariant-others
invariant-others l = (other : ℕ) → other < l.other → other ≢ l.digit → l.own < pair_misfit l.seen l.narrow l.wide (five_widths other)
