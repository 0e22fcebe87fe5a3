use Rattle.std.proofs.Common.{◌*◌}
use Rattle.picture_core.specs.inner.Bounds.{IsBounded}
use Rattle.picture_core.proofs.stripes.row_changes.Given as goal

abbrev pub invariant-loop-dot : goal.invariant-loop-dot
invariant-loop-dot l = record {
  across : IsBounded (65025 * l.dot) l.across;
  down : IsBounded (65025 * l.dot) l.down;
  both : IsBounded (65025 * l.dot) l.both;
}
