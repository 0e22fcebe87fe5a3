use Rattle.line_core.specs.Pairs.{pair_misfit}
use Rattle.line_core.proofs.pairs.misfit.Goals as goal

pub returns-clause-value : goal.returns-clause-value
unfolding pair_misfit
returns-clause-value c = cc
