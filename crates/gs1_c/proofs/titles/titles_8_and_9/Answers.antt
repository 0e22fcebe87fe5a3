use Rattle.std.proofs.Common.{refl}
use Rattle.gs1_c.specs.Titles.{titles_8_and_9}
use Rattle.gs1_c.proofs.titles.titles_8_and_9.Goals as goal

pub returns : goal.returns
unfolding titles_8_and_9
returns c = refl
