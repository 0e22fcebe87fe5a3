use Rattle.std.proofs.Common.{refl}
use Rattle.gs1_c.specs.Titles.{titles_3}
use Rattle.gs1_c.proofs.titles.titles_3.Goals as goal

pub returns : goal.returns
unfolding titles_3
returns c = refl
