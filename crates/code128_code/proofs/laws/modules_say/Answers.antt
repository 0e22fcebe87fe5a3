use Rattle.code128_code.proofs.SayFacts.{modules_say as law}
use Rattle.code128_code.proofs.laws.modules_say.Goals as goal

pub returns : goal.returns
returns c = law
