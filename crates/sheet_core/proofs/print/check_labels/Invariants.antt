use Rattle.std.proofs.Common.{take}
use Rattle.std.specs.List.{AllByRecursion}
use Rattle.sheet_core.specs.Labels.{IsPrintable}
use Rattle.sheet_core.proofs.print.check_labels.Given as goal

abbrev pub invariant-loop-i : goal.invariant-loop-i
invariant-loop-i l = AllByRecursion (IsPrintable l.grid) (take l.i l.labels)
