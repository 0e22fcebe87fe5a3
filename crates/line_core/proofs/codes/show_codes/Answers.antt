use Rattle.std.proofs.Common.{◌*◌, arith}
use Rattle.line_core.specs.Codes.{IsCodeAt}
use Rattle.line_core.proofs.BelowFacts.{below_more}
use Rattle.line_core.proofs.codes.show_codes.Goals as goal

pub codes-preserved : goal.codes-preserved
codes-preserved c = below_more
    (λ number. IsCodeAt c.args.ends.now c.args.widths.now c.ink_of-ink.result (6 * number))
    c.codes.number c.codes.invariant (c.is_code_at.ensures (cc))

pub returns : goal.returns
returns c = λ yes. record {
  ink = c.ink_of-ink.result;
  within = omega arith;
  each = λ number less. c.codes.invariant number (omega (arith, less, c.codes-test.false));
}
