-- The widths of the words so far are read, and there is room for all; each turn reads a word at least.
use Rattle.std.proofs.Common.{◌-◌, ◌≤◌, length}
use Rattle.std.specs.Vec.{vec_capacity}
use Rattle.csv_records.specs.lanes.Widths.{words_of}
use Rattle.csv_records.proofs.lanes.FieldWords.{AreRead}
use Rattle.csv_records.proofs.lanes.widths.read_any_widths.Given as goal

abbrev pub decreases-words : goal.decreases-words
decreases-words l = l.count - length l.widths.items

abbrev pub invariant-words : goal.invariant-words
invariant-words l = record {
  read : AreRead (words_of l.field) l.rest l.widths.items l.is_wide;
  room : l.count ≤ vec_capacity l.widths;
}
