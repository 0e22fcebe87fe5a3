use Rattle.std.proofs.Common.{◌+◌, ◌*◌, ◌<◌, ℕ}
use Rattle.line_core.specs.Digits.{ShowsDigitAt}
use Rattle.line_core.proofs.digits.show_digits.Given as goal

abbrev pub invariant-digits : goal.invariant-digits
invariant-digits l = (number : ℕ) → number < l.number → ShowsDigitAt l.ends l.widths l.ink (l.first + 4 * number)
