use Rattle.command_line.proofs.AskedFacts.{taken_words_ask as law}
use Rattle.command_line.proofs.laws.taken_words_ask.Goals as goal

pub returns : goal.returns
returns c = law
