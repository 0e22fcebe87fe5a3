use Rattle.line_core.specs.Codes.{code_misfit}
use Rattle.line_core.proofs.codes.misfit.Goals as goal

pub returns-clause-value : goal.returns-clause-value
unfolding code_misfit
returns-clause-value c = cc
