use Rattle.element_core.proofs.Before.{profile_within}
use Rattle.element_core.proofs.laws.profile_within.Goals as goal

pub returns : goal.returns
returns c = profile_within
