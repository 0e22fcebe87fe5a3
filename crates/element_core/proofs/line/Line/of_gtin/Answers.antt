use Rattle.element_core.proofs.GtinLemmas.{digits_ascii}
use Rattle.element_core.proofs.line.Line.of_gtin.Goals as goal

pub push_bytes-requires-clause-ascii : goal.push_bytes-requires-clause-ascii
push_bytes-requires-clause-ascii c = let digits = c.digits14.ensures in rw digits.value (digits_ascii c.args.gtin.now digits.digits)
