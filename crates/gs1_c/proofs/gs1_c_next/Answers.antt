use Rattle.gs1_c.proofs.AgainFacts.{shown_again}
use Rattle.gs1_c.proofs.gs1_c_next.Goals as goal

pub returns-in-Some-clause-again : goal.returns-in-Some-clause-again
returns-in-Some-clause-again c = shown_again

pub returns-in-None-clause-again : goal.returns-in-None-clause-again
returns-in-None-clause-again c = shown_again
