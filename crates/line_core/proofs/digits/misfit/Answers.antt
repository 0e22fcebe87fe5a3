use Rattle.line_core.specs.Digits.{misfit}
use Rattle.line_core.proofs.digits.misfit.Goals as goal

pub returns-clause-value : goal.returns-clause-value
unfolding misfit
returns-clause-value c = cc
