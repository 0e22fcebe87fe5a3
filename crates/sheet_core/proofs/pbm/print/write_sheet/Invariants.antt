use Rattle.std.proofs.Common.{◌≡◌, ℕ, List, false}
use Rattle.std.specs.Io.KnownBytes.{Appends}
use Rattle.std.specs.List.{AllZip}
use Rattle.sheet_core.specs.Labels.{Drawn, IsDrawn}
use Rattle.sheet_core.proofs.BandFacts.{Banded}
use Rattle.sheet_core.proofs.pbm.print.write_sheet.Given as goal

abbrev pub invariant-loop-row : goal.invariant-loop-row
invariant-loop-row g l = record {
  wrote : (symbols : List Drawn) → AllZip IsDrawn l.labels symbols
      → (bytes : List ℕ) × Banded l.grid symbols l.row bytes × Appends (g.W.Sink.taken l.initial.sink) (g.W.Sink.taken l.sink) bytes;
  same : g.W.Sink.failed l.fn.sink ≡ false → g.W.Sink.failed l.sink ≡ false;
}
