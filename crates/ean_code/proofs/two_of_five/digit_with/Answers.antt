use Rattle.std.proofs.Common.{rules}
use Rattle.ean_code.proofs.PairFacts.{digit_low}
use Rattle.ean_code.proofs.two_of_five.digit_with.Goals as goal

pub widths_of-requires : goal.widths_of-requires
widths_of-requires c = digit_low c.packed.result 0 c.packed.ensures.low (search rules)
