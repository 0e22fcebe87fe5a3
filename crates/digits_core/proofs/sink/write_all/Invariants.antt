use Rattle.std.proofs.Common.{◌≡◌, ◌++◌, ℕ, List, length}
use Rattle.std.specs.Io.KnownBytes.{Appends}
use Rattle.digits_core.proofs.sink.write_all.Given as goal

abbrev pub decreases-writes : goal.decreases-writes
decreases-writes g l = length l.rest

abbrev pub invariant-writes : goal.invariant-writes
invariant-writes g l = record {
  front : List ℕ;
  whole : l.fn.bytes ≡ front ++ l.rest;
  took : Appends (g.W.Sink.taken l.fn.sink) (g.W.Sink.taken l.sink) front;
  same : g.W.Sink.failed l.sink ≡ g.W.Sink.failed l.fn.sink;
}
