use Rattle.std.proofs.Common.{List}
use Rattle.std.specs.List.{AllZip}
use Rattle.sheet_core.specs.Labels.{Drawn, IsDrawn}
use Rattle.sheet_core.proofs.BandFacts.{Banded}
use Rattle.sheet_core.proofs.print.print_sheet.Given as goal

abbrev pub invariant-loop-row : goal.invariant-loop-row
invariant-loop-row l = (symbols : List Drawn) → AllZip IsDrawn l.labels symbols → Banded l.grid symbols l.row l.bytes.items
