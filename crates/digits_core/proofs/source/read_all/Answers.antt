use Rattle.std.proofs.Common.{◌++◌, take, arith, ℕ, length-append, length-take}
use Rattle.std.proofs.KnownBytes.{Consumes-trans}
use Rattle.digits_core.proofs.source.read_all.Goals as goal

pub returns-then-count-limit-clause-long : goal.returns-then-count-limit-clause-long
returns-then-count-limit-clause-long g c = λ _.
    let inv = c.reads.invariant in
    let piece = take c.in-Ok.count c.read.new.buf in (
      c.reads.bytes.items ++ piece,
      Consumes-trans _ _ _ c.reads.bytes.items piece inv.gave c.in-Ok.ensures.bytes.0,
      omega (arith, c.in-Ok.ensures.bound, length-append c.reads.bytes.items piece, length-take {A = ℕ}),
    )
