use Rattle.std.proofs.Common.{◌*◌, ◌<◌, ℕ}
use Rattle.line_core.specs.Codes.{IsCodeAt}
use Rattle.line_core.proofs.codes.show_codes.Given as goal

abbrev pub invariant-codes : goal.invariant-codes
invariant-codes l = (number : ℕ) → number < l.number → IsCodeAt l.ends l.widths l.ink (6 * number)
