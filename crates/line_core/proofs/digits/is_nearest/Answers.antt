use Rattle.std.proofs.Common.{◌≢◌, ◌<◌, arith}
use Rattle.line_core.specs.Digits.{digit_pattern, misfit_of}
use Rattle.line_core.proofs.BelowFacts.{below_more}
use Rattle.line_core.proofs.digits.is_nearest.Goals as goal

pub others-preserved : goal.others-preserved
others-preserved c = below_more
    (λ other. other ≢ c.args.character → c.misfit-own.result < misfit_of c.args.seen c.args.ink (digit_pattern other))
    c.others.other c.others.invariant (c.is_less_like.ensures (cc))

pub returns : goal.returns
returns c = λ yes. record {
  within = omega arith;
  near = rw (c.misfit-own.ensures.value, c.widths_of.ensures.value) at c.if-own-gt-MOST_MISFIT.false;
  nearest = λ other less ne. rw (c.misfit-own.ensures.value, c.widths_of.ensures.value) at (c.others.invariant other (omega (arith, less, c.others-test.false)) ne);
}
