use Rattle.std.proofs.Common.{◌≡◌, List}
use Rattle.sheet_core.specs.Bitmaps.{Bitmap}
use Rattle.sheet_core.proofs.pbm.FileFacts.{Had}
use Rattle.sheet_core.proofs.pbm.read.read_sheets.Given as goal

abbrev pub invariant-loop : goal.invariant-loop
invariant-loop g l = record {
  sheets : List Bitmap;
  had : Had (g.R.Source.left l.fn.reader) (g.R.Source.left l.reader) l.counter sheets;
  made : g.I.SheetIntake.makes l.intake sheets l.made;
  same : g.R.Source.failed l.reader ≡ g.R.Source.failed l.fn.reader;
}
