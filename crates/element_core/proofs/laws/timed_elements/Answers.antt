use Rattle.element_core.proofs.Dated.{timed_elements, timed_in_profile}
use Rattle.element_core.proofs.laws.timed_elements.Goals as goal

pub returns-clause-every : goal.returns-clause-every
returns-clause-every c = timed_elements

pub returns-clause-profile : goal.returns-clause-profile
returns-clause-profile c = timed_in_profile
