use Rattle.std.proofs.Common.{◌≡◌, ◌*◌, List}
use Rattle.std.specs.List.{AllZip}
use Rattle.sheet_core.specs.Labels.{Drawn, IsDrawn}
use Rattle.sheet_core.proofs.CellLineFacts.{Lined}
use Rattle.sheet_core.proofs.line.draw_line.Given as goal

abbrev pub invariant-loop-label : goal.invariant-loop-label
invariant-loop-label l = record {
  at_is : l.at ≡ l.label-index * l.width;
  lined : (symbols : List Drawn) → AllZip IsDrawn l.labels symbols → Lined l.grid symbols l.label-index l.line;
}
