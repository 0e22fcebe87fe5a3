use Rattle.code128_code.proofs.ReplacedCheckCharacter.{replaced_law}
use Rattle.code128_code.proofs.laws.replaced_is_unchecked.Goals as goal

pub returns : goal.returns
returns c = replaced_law
