use Rattle.std.proofs.Common.{add-one, arith, refl}
use Rattle.picture_core.specs.Samples.{IsInPicture, sample_down, sample_right}
use Rattle.picture_core.proofs.BelowFacts.{below_more}
use Rattle.picture_core.proofs.samples.sum_at.Goals as goal

pub lines-preserved : goal.lines-preserved
lines-preserved c =
    let value = rw (c.sample_right.ensures, c.sample_down.ensures) at c.in-Some.ensures.value in
    let amid = rw (c.sample_right.ensures, c.sample_down.ensures) at c.in-Some.ensures.some in
    record {
      sum = rw (c.lines.invariant.sum, value, add-one c.lines.lower) refl;
      amid = below_more (λ lower. IsInPicture c.args.picture.now (sample_right c.args.line.now c.args.sample lower) (sample_down c.args.line.now c.args.sample lower))
          c.lines.lower c.lines.invariant.amid amid;
      few = omega (arith, c.lines.invariant.few, c.in-Some.ensures.few);
    }
