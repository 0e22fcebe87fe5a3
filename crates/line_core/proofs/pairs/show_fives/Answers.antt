use Rattle.std.proofs.Common.{◌+◌, ◌*◌, arith}
use Rattle.line_core.specs.Pairs.{IsFiveAt}
use Rattle.line_core.proofs.BelowFacts.{below_more}
use Rattle.line_core.proofs.pairs.show_fives.Goals as goal

pub pairs-preserved : goal.pairs-preserved
pairs-preserved c = below_more
    (λ number. IsFiveAt c.args.ends.now c.args.widths.now c.mean_of-narrow.result c.mean_of-wide.result c.args.colour (4 + 10 * number))
    c.pairs.number c.pairs.invariant (c.is_five_at.ensures (cc))

pub returns : goal.returns
returns c = λ yes. record {
  narrow = c.mean_of-narrow.result;
  wide = c.mean_of-wide.result;
  within = omega arith;
  each = λ number less. c.pairs.invariant number (omega (arith, less, c.pairs-test.false));
}
