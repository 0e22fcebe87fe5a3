use Rattle.std.proofs.Common.{refl}
use Rattle.gs1_c.specs.Titles.{titles_7}
use Rattle.gs1_c.proofs.titles.titles_7.Goals as goal

pub returns : goal.returns
unfolding titles_7
returns c = refl
