use Rattle.std.proofs.Common.{◌≡◌, ◌+◌, ◌*◌, ◌<◌, ℕ}
use Rattle.ean_code.specs.TwoOfFive.{five_widths}
use Rattle.line_core.specs.Ends.{at}
use Rattle.line_core.proofs.pairs.are_widths_of.Given as goal

abbrev pub invariant-elements : goal.invariant-elements
invariant-elements l = (element : ℕ) → element < l.element → at l.widths (l.first + 2 * element) ≡ 48 * at (five_widths l.digit) element
