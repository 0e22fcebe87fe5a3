use Rattle.std.proofs.Common.{refl}
use Rattle.gs1_c.specs.Titles.{titles_4}
use Rattle.gs1_c.proofs.titles.titles_4.Goals as goal

pub returns : goal.returns
unfolding titles_4
returns c = refl
