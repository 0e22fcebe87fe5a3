use Rattle.std.proofs.Common.{◌≢◌, ◌<◌, arith}
use Rattle.ean_code.specs.TwoOfFive.{five_widths}
use Rattle.line_core.specs.Pairs.{pair_misfit}
use Rattle.line_core.proofs.BelowFacts.{below_more}
use Rattle.line_core.proofs.pairs.is_nearest.Goals as goal

pub others-preserved : goal.others-preserved
others-preserved c = below_more
    (λ other. other ≢ c.args.digit → c.misfit-own.result < pair_misfit c.args.seen c.args.narrow c.args.wide (five_widths other))
    c.others.other c.others.invariant (c.is_less_like.ensures (cc))

pub returns : goal.returns
returns c = λ yes. record {
  within = omega arith;
  near = rw (c.misfit-own.ensures.value, c.modules_of.ensures.value) at c.if-own-gt-MOST_MISFIT.false;
  nearest = λ other less ne. rw (c.misfit-own.ensures.value, c.modules_of.ensures.value) at (c.others.invariant other (omega (arith, less, c.others-test.false)) ne);
}
