use Rattle.element_core.proofs.TableLaws.{no_ai_begins_another}
use Rattle.element_core.proofs.laws.no_ai_begins_another.Goals as goal

pub returns : goal.returns
returns c = no_ai_begins_another
