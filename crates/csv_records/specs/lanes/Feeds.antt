-- What records mean to `lanes`: a lane and a row each, and so the rows of each lane.
use Rattle.std.specs.Prelude.{◌≡◌, ◌==◌, ◌&&◌, nat_lt, ℕ, Bool, List, [], ◌∷◌, Option, Some, None, Result, Ok, Err, map, if◌then◌else◌}
use Rattle.std.specs.List.{filter, range_with_len}
use Rattle.std.specs.Str.Parse.{digits_value}
use Rattle.csv_records.specs.input.Records.{Fields, Meaning}
use Rattle.csv_records.specs.lanes.Widths.{field_fault, is_number, widths_in}
use Rattle.csv_records.specs.declared.input.fault.RecordFault.{RecordFault}
use Rattle.csv_records.specs.declared.input.fault.RecordFault.TheVariants as fault

-- a lane is named by one or two digits, as many as `most_lanes` of command_line has, that show a number below that of the lanes
abbrev pub is_lane : ℕ → List ℕ → Bool
is_lane lanes text = is_number 2 text && nat_lt (digits_value 10 text) lanes

-- a row of a lane
abbrev pub LaneRow : Type 0
LaneRow = ℕ × List ℕ

-- this row, unless there is a fault
abbrev pub row_or : Option RecordFault → LaneRow → Result LaneRow RecordFault
row_or None row = Ok row
row_or (Some f) row = Err f

-- what a record means: a row of a lane, or its first fault: the number of its fields, then its lane, then its widths
abbrev pub lane_row : ℕ → Fields → Result LaneRow RecordFault
lane_row lanes (lane ∷ widths ∷ []) = if is_lane lanes lane then row_or (field_fault widths) (digits_value 10 lane, widths_in widths) else Err fault.BadLane
lane_row lanes _ = Err fault.Csv

-- `lane_row`, as a `Meaning`
abbrev pub lanes_meaning : ℕ → Meaning LaneRow
lanes_meaning lanes fields r = r ≡ lane_row lanes fields

-- the rows of a lane, in the order of their records
abbrev pub feed_of : ℕ → List LaneRow → List (List ℕ)
feed_of lane rows = map (λ r. r.1) (filter (λ r. r.0 == lane) rows)

-- the rows of each lane, from lane 0
abbrev pub feeds_of : ℕ → List LaneRow → List (List (List ℕ))
feeds_of lanes rows = map (λ lane. feed_of lane rows) (range_with_len 0 lanes)
