use Rattle.std.proofs.Common.{arith}
use Rattle.std.proofs.lemmas.Int.{ints}
use Rattle.picture_core.proofs.fit.Fit.with.Goals as goal

pub invariant_of-result : goal.invariant_of-result
invariant_of-result c = record {
  few = omega arith;
  along_within = (omega (arith, ints), omega (arith, ints));
  aside_within = (omega (arith, ints), omega (arith, ints));
  squares_within = (omega (arith, ints), omega (arith, ints));
  products_within = (omega (arith, ints), omega (arith, ints));
}
