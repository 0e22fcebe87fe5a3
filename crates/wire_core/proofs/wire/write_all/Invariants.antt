use Rattle.std.proofs.Common.{◌≡◌, ◌++◌, ℕ, List, length}
use Rattle.wire_core.specs.Events.{Writes}
use Rattle.wire_core.proofs.wire.write_all.Given as goal

abbrev pub decreases-writes : goal.decreases-writes
decreases-writes g l = length l.rest

abbrev pub invariant-writes : goal.invariant-writes
invariant-writes g l = record {
  did : (done : List ℕ) × Writes g.W.Wire.Did l.fn.wire done l.wire × (done ++ l.rest ≡ l.fn.bytes);
  same : g.W.Wire.write_failed l.wire ≡ g.W.Wire.write_failed l.fn.wire;
  read : g.W.Wire.read_failed l.wire ≡ g.W.Wire.read_failed l.fn.wire;
  end : g.W.Wire.at_end l.fn.wire → g.W.Wire.at_end l.wire;
}
