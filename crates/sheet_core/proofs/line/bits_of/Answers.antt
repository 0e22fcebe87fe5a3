use Rattle.sheet_core.proofs.ByteFacts.{span_of}
use Rattle.sheet_core.proofs.line.bits_of.Goals as goal

pub overflow_sub-result : goal.overflow_sub-result
overflow_sub-result c = (span_of c.args.from c.args.end c.requires.order c.requires.within).order

pub returns : goal.returns
returns c = λ k low. (span_of c.args.from c.args.end c.requires.order c.requires.within).bits k low
