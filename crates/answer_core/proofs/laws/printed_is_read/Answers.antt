use Rattle.answer_core.proofs.PrintedFacts.{one_printed, printed_read}
use Rattle.answer_core.proofs.laws.printed_is_read.Goals as goal

pub returns-clause-read : goal.returns-clause-read
returns-clause-read c = printed_read c.faultless_pairs.ensures

pub returns-clause-one : goal.returns-clause-one
returns-clause-one c = one_printed
