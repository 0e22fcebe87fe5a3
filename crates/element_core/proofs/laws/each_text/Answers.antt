use Rattle.element_core.proofs.Total.{each_text}
use Rattle.element_core.proofs.laws.each_text.Goals as goal

pub returns : goal.returns
returns c = each_text
