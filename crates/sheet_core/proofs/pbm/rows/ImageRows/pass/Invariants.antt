-- What was passed so far.
use Rattle.std.proofs.Common.{Ok, length, ◌+◌, ◌-◌, ◌≤◌}
use Rattle.sheet_core.specs.pbm.Rows.{GoesOnBy}
use Rattle.sheet_core.proofs.pbm.rows.ImageRows.pass.Given as goal

abbrev pub invariant-pieces : goal.invariant-pieces
invariant-pieces g l = record {
  few : l.rest ≤ l.count;
  come : l.rest ≤ length l.self.held + l.self.left;
  goes : GoesOnBy g.S.Source.left g.S.Source.failed (l.count - l.rest) l.fn.self (Ok tt) l.self;
}

abbrev pub decreases-pieces : goal.decreases-pieces
decreases-pieces g l = l.self.left
