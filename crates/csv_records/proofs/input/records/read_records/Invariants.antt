-- The records so far mean these items, of which this was made.
use Rattle.std.proofs.Common.{◌≡◌, List, length}
use Rattle.csv_records.specs.input.Reading.{HasRead}
use Rattle.csv_records.specs.input.Records.{AreItems, Fields}
use Rattle.csv_records.proofs.input.records.read_records.Given as goal

abbrev pub invariant-each : goal.invariant-each
invariant-each g l = record {
  rows : List Fields;
  read : HasRead l.fn.bytes.items l.records rows;
  index : l.index ≡ length rows;
  items : List _;
  taken : AreItems (g.I.Intake.means l.intake) rows items;
  made : g.I.Intake.makes l.intake items l.made;
}
