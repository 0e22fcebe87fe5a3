use Rattle.std.proofs.Common.{◌+◌, ◌*◌, arith}
use Rattle.line_core.specs.Digits.{ShowsDigitAt}
use Rattle.line_core.proofs.BelowFacts.{below_more}
use Rattle.line_core.proofs.digits.show_digits.Goals as goal

pub digits-preserved : goal.digits-preserved
digits-preserved c = below_more
    (λ number. ShowsDigitAt c.args.ends.now c.args.widths.now c.ink_of-ink.result (c.args.first + 4 * number))
    c.digits.number c.digits.invariant (c.is_digit_at.ensures (cc))

pub returns : goal.returns
returns c = λ yes. record {
  ink = c.ink_of-ink.result;
  within = omega arith;
  each = λ number less. c.digits.invariant number (omega (arith, less, c.digits-test.false));
}
