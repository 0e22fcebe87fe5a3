use Rattle.code128_code.proofs.OneCharacterList.{one_reading as law}
use Rattle.code128_code.proofs.laws.one_reading.Goals as goal

pub returns : goal.returns
returns c = law
