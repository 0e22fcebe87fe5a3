use Rattle.std.proofs.Common.{ap, arith, length, length-take, refl}
use Rattle.answer_core.proofs.conflict.Conflict.new.Goals as goal

pub put_at-requires : goal.put_at-requires
put_at-requires c =
    let is = ap length c.first.ensures in
    let long = length-take 44 c.args.text.now in
    omega (arith, is, long)

pub returns : goal.returns
returns c = rw (c.number.ensures, c.put_at.ensures.put, c.first.ensures) refl
