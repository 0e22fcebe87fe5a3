use Rattle.element_core.proofs.TableLaws.{first_digits_decide}
use Rattle.element_core.proofs.laws.first_digits_decide.Goals as goal

pub returns : goal.returns
returns c = first_digits_decide
