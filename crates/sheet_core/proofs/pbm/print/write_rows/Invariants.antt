use Rattle.std.proofs.Common.{◌≡◌, false}
use Rattle.std.specs.Io.KnownBytes.{Appends}
use Rattle.sheet_core.specs.inner.Lines.{repeated_bytes}
use Rattle.sheet_core.proofs.pbm.print.write_rows.Given as goal

abbrev pub invariant-loop : goal.invariant-loop
invariant-loop g l = record {
  wrote : Appends (g.W.Sink.taken l.fn.sink) (g.W.Sink.taken l.sink) (repeated_bytes l.counter l.line);
  same : g.W.Sink.failed l.fn.sink ≡ false → g.W.Sink.failed l.sink ≡ false;
}
