use Rattle.element_core.proofs.Unique.{one_answer}
use Rattle.element_core.proofs.laws.one_list_or_fault.Goals as goal

pub returns : goal.returns
returns c = one_answer
