use Rattle.element_core.proofs.TableLaws.{parts_have_one_length}
use Rattle.element_core.proofs.laws.parts_have_one_length.Goals as goal

pub returns : goal.returns
returns c = parts_have_one_length
