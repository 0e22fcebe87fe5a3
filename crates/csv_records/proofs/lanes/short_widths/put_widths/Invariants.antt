-- The widths of the blocks so far are put, and there is room for those of the rest.
use Rattle.std.proofs.Common.{◌+◌, ◌-◌, ◌*◌, ◌/◌, ◌≤◌, length, take}
use Rattle.csv_records.proofs.lanes.BlockSteps.{ArePut}
use Rattle.csv_records.proofs.lanes.short_widths.put_widths.Given as goal

abbrev pub decreases-blocks-2 : goal.decreases-blocks-2
decreases-blocks-2 l = length l.field - l.done

abbrev pub invariant-blocks-2 : goal.invariant-blocks-2
invariant-blocks-2 l = record {
  within : l.done ≤ length l.field;
  few : 2 * l.at ≤ l.done;
  room : length l.field / 2 + 16 ≤ length l.widths;
  put : ArePut (take l.done l.field) l.widths l.before l.at;
}
