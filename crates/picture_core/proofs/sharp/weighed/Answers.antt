use Rattle.std.proofs.Common.{◌≡◌, arith}
use Rattle.picture_core.proofs.sharp.weighed.Goals as goal

pub returns-clause-sum : goal.returns-clause-sum
returns-clause-sum c =
    let all : c.sides.away ≡ 27 = omega (arith, c.sides-test.false, c.sides.auto.away-end) in
    rw (all) at c.sides.invariant.sum
