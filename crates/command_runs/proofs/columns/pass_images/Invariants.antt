-- These images were passed.
use Rattle.std.proofs.Common.{◌≡◌, ◌-◌, List}
use Rattle.sheet_core.specs.Bitmaps.{Bitmap}
use Rattle.command_runs.specs.Columns.{have_size}
use Rattle.command_runs.specs.inner.CellRows.{PassesSheets}
use Rattle.command_runs.proofs.columns.pass_images.Given as goal

abbrev pub invariant-sheets : goal.invariant-sheets
invariant-sheets g l = record {
  more : List Bitmap;
  fit : l.fit ≡ have_size l.grid more;
  on : PassesSheets g.S.Source.left g.S.Source.failed l.fn.images more l.images;
}

abbrev pub decreases-sheets : goal.decreases-sheets
decreases-sheets g l = 4096 - l.images.begun
