-- The bytes so far are five digits at most, and show the width.
use Rattle.std.proofs.Common.{◌≡◌, ◌≤◌, take, true}
use Rattle.std.specs.Char.{is_ascii_digit}
use Rattle.std.specs.List.{list_all}
use Rattle.std.specs.Str.Parse.{digits_value}
use Rattle.csv_records.proofs.lanes.widths.width_of_any_length.Given as goal

abbrev pub invariant-digits : goal.invariant-digits
invariant-digits l = record {
  few : l.length ≤ 5;
  digits : list_all is_ascii_digit (take l.length l.text) ≡ true;
  value : l.width ≡ digits_value 10 (take l.length l.text);
}
