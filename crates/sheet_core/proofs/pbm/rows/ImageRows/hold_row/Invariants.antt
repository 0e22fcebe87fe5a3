-- Nothing is passed.
use Rattle.std.proofs.Common.{Ok}
use Rattle.sheet_core.specs.pbm.Rows.{GoesOnBy}
use Rattle.sheet_core.proofs.pbm.rows.ImageRows.hold_row.Given as goal

abbrev pub invariant-pieces : goal.invariant-pieces
invariant-pieces g l = record {
  goes : GoesOnBy g.S.Source.left g.S.Source.failed 0 l.fn.self (Ok tt) l.self;
}

abbrev pub decreases-pieces : goal.decreases-pieces
decreases-pieces g l = l.self.left
