use Rattle.std.proofs.Common.{◌+◌, arith}
use Rattle.line_core.specs.Ends.{IsEndOf, at}
use Rattle.line_core.proofs.BelowFacts.{below_more}
use Rattle.line_core.proofs.ends.show_ends.Goals as goal

pub ends-preserved : goal.ends-preserved
ends-preserved c = below_more
    (λ number. IsEndOf c.args.values.now c.args.step (at c.args.turns.now number) (at c.args.turns.now (number + 1)) (at c.args.ends.now number) number)
    c.ends.number c.ends.invariant (c.is_end_of.ensures (cc))

pub returns : goal.returns
returns c = λ yes. record {
  count = omega arith;
  each = λ number less. c.ends.invariant number (omega (arith, less, c.ends-test.false));
}
