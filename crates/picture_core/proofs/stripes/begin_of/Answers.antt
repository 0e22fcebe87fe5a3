use Rattle.std.proofs.Common.{arith}
use Rattle.std.proofs.lemmas.Nat.{mul-le}
use Rattle.picture_core.proofs.stripes.begin_of.Goals as goal

pub overflow_mul-result : goal.overflow_mul-result
overflow_mul-result c =
    omega (arith, mul-le c.args.before c.args.side 65535 32 c.requires.before c.requires.side)

pub returns : goal.returns
returns c =
    omega (arith, mul-le c.args.before c.args.side 65535 32 c.requires.before c.requires.side)
