use Rattle.code128_code.proofs.OneCharacterList.{one_way as law}
use Rattle.code128_code.proofs.laws.one_way.Goals as goal

pub returns : goal.returns
returns c = law
