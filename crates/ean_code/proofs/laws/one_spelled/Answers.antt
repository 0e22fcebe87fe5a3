use Rattle.ean_code.proofs.SpelledAnswers.{one_answer as law}
use Rattle.ean_code.proofs.laws.one_spelled.Goals as goal

pub returns : goal.returns
returns c = law
