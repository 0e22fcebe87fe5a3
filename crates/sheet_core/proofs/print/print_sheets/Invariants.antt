use Rattle.std.proofs.Common.{◌≡◌, ℕ, List, length}
use Rattle.std.specs.Prelude.{Some, slice_get}
use Rattle.std.specs.List.{AllZip}
use Rattle.sheet_core.specs.Bitmaps.{Bitmap}
use Rattle.sheet_core.specs.Drawing.{IsSheet}
use Rattle.sheet_core.specs.Labels.{Drawn, IsDrawn}
use Rattle.sheet_core.proofs.print.print_sheets.Given as goal

abbrev pub invariant-loop-i : goal.invariant-loop-i
invariant-loop-i l = record {
  count : length l.sheets.items ≡ l.i;
  drawn : (symbols : List Drawn) → AllZip IsDrawn l.labels symbols → (i : ℕ) (s : Bitmap) → slice_get l.sheets.items i ≡ Some s → IsSheet symbols l.grid i s;
}
