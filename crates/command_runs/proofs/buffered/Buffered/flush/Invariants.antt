-- What the sink took and what waits is the same together as at first, and no write has failed so far.
use Rattle.std.proofs.Common.{◌≡◌, length}
use Rattle.std.specs.Io.KnownBytes.{Keeps, append_known}
use Rattle.command_runs.specs.inner.Buffers.{taken_and_waiting}
use Rattle.command_runs.proofs.buffered.Buffered.flush.Given as goal

abbrev pub invariant-writes : goal.invariant-writes
invariant-writes g l = record {
  bytes : Keeps (taken_and_waiting g.W.Sink.taken l.fn.self) (append_known (g.W.Sink.taken l.self-inside.sink) l.self-inside.waiting);
  same : g.W.Sink.failed l.self-inside.sink ≡ g.W.Sink.failed l.fn.self.sink;
  sound : l.self-inside.has_failed ≡ g.W.Sink.failed l.self-inside.sink;
}

abbrev pub decreases-writes : goal.decreases-writes
decreases-writes g l = length l.self-inside.waiting
