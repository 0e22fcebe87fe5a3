use Rattle.std.proofs.Common.{arith}
use Rattle.std.proofs.lemmas.Int.{ints}
use Rattle.picture_core.proofs.stripes.block_of.Goals as goal

pub loop-pair-preserved : goal.loop-pair-preserved
loop-pair-preserved c = record {
  across = (omega (arith, ints), omega (arith, ints));
  down = (omega (arith, ints), omega (arith, ints));
  both = (omega (arith, ints), omega (arith, ints));
  rows = omega arith;
}
