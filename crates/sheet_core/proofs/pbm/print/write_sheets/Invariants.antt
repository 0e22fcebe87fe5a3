use Rattle.std.proofs.Common.{◌≡◌, List, false}
use Rattle.std.specs.Io.KnownBytes.{Appends}
use Rattle.std.specs.List.{AllZip}
use Rattle.sheet_core.specs.Bitmaps.{Bitmap}
use Rattle.sheet_core.specs.Labels.{Drawn, IsDrawn}
use Rattle.sheet_core.specs.pbm.Images.{pbm_of}
use Rattle.sheet_core.proofs.pbm.PrintFacts.{Sheeted}
use Rattle.sheet_core.proofs.pbm.print.write_sheets.Given as goal

abbrev pub invariant-loop-i : goal.invariant-loop-i
invariant-loop-i g l = record {
  wrote : (symbols : List Drawn) → AllZip IsDrawn l.labels symbols
      → (sheets : List Bitmap) × Sheeted l.grid symbols l.i sheets × Appends (g.W.Sink.taken l.fn.sink) (g.W.Sink.taken l.sink) (pbm_of sheets);
  none : l.i ≡ 0 → l.sink ≡ l.fn.sink;
  same : g.W.Sink.failed l.fn.sink ≡ false → g.W.Sink.failed l.sink ≡ false;
}
