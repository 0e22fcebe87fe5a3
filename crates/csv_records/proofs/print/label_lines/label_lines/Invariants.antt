-- The text so far has the lines of the labels so far.
use Rattle.std.proofs.Common.{◌≡◌, string_bytes, take}
use Rattle.csv_records.specs.print.Labels.{label_lines_from}
use Rattle.csv_records.proofs.print.label_lines.label_lines.Given as goal

abbrev pub invariant-labels : goal.invariant-labels
invariant-labels l = string_bytes l.text ≡ label_lines_from l.cells 0 (take l.index l.labels)
