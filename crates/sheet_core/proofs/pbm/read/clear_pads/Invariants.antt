use Rattle.sheet_core.proofs.pbm.PadFacts.{Cleared}
use Rattle.sheet_core.proofs.pbm.read.clear_pads.Given as goal

abbrev pub invariant-loop-row : goal.invariant-loop-row
invariant-loop-row l = Cleared l.fn.size.width l.fn.bytes l.row l.bytes
