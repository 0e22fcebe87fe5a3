use Rattle.code128_code.proofs.TextFacts.{text_or_fault as law}
use Rattle.code128_code.proofs.laws.text_or_fault.Goals as goal

pub returns : goal.returns
returns c = law
