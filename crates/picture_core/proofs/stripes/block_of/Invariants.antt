use Rattle.std.proofs.Common.{◌*◌, ◌≤◌}
use Rattle.picture_core.specs.inner.Bounds.{IsBounded}
use Rattle.picture_core.proofs.stripes.block_of.Given as goal

abbrev pub invariant-loop-pair : goal.invariant-loop-pair
invariant-loop-pair l = record {
  across : IsBounded (2080800 * l.pair) l.changes.across;
  down : IsBounded (2080800 * l.pair) l.changes.down;
  both : IsBounded (2080800 * l.pair) l.changes.both;
  rows : l.rows ≤ l.pair;
}
