use Rattle.std.proofs.Common.{refl}
use Rattle.gs1_c.specs.Titles.{titles_0_to_2}
use Rattle.gs1_c.proofs.titles.titles_0_to_2.Goals as goal

pub returns : goal.returns
unfolding titles_0_to_2
returns c = refl
