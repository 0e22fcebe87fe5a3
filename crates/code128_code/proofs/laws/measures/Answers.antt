use Rattle.code128_code.proofs.OneCharacterList.{measures as law}
use Rattle.code128_code.proofs.laws.measures.Goals as goal

pub returns : goal.returns
returns c = law
