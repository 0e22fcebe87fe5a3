use Rattle.digits_core.proofs.Spellings.{one_first_spelling as law}
use Rattle.digits_core.proofs.laws.one_first_spelling.Goals as goal

pub returns : goal.returns
returns c = law
