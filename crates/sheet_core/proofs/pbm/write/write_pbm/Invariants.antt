use Rattle.std.proofs.Common.{◌≡◌, false, take}
use Rattle.std.specs.Io.KnownBytes.{Appends}
use Rattle.sheet_core.specs.pbm.Images.{pbm_of}
use Rattle.sheet_core.proofs.pbm.write.write_pbm.Given as goal

abbrev pub invariant-loop-sheet : goal.invariant-loop-sheet
invariant-loop-sheet g l = record {
  wrote : Appends (g.W.Sink.taken l.fn.writer) (g.W.Sink.taken l.writer) (pbm_of (take l.sheet-index l.sheets));
  same : g.W.Sink.failed l.fn.writer ≡ false → g.W.Sink.failed l.writer ≡ false;
}
