use Rattle.message_core.proofs.CodingFacts.{codes_are_read}
use Rattle.message_core.proofs.laws.codes_are_read.Goals as goal

pub returns : goal.returns
returns c = codes_are_read
