use Rattle.scan_core.proofs.WordFacts.{first_one, first_zeros}
use Rattle.scan_core.proofs.bits.zeros_before.Goals as goal

pub returns-clause-zeros : goal.returns-clause-zeros
returns-clause-zeros c k lt = first_zeros c.args.word k c.ranges.word.fits lt

pub returns-clause-one : goal.returns-clause-one
returns-clause-one c lt = first_one c.args.word c.ranges.word.fits lt
