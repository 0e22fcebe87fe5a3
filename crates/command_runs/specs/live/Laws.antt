-- Laws of a live input beside the records of `csv` and the report of `lanes` (`live/laws.rt`).
use Rattle.std.specs.Prelude.{◌≡◌, ◌≤◌, ◌==◌, ◌++◌, ◌∷◌, ℕ, All, Bool, false, true, List, [], length, map}
use Rattle.std.specs.List.{AllZip, concat, filter}
use Rattle.csv.specs.Reading.{strip_bom}
use Rattle.scan_core.specs.Answers.{IsAnswer}
use Rattle.scan_core.specs.declared.answer.Answer.{Answer}
use Rattle.wire_core.specs.Lines.{most_line, pieces_of}
use Rattle.command_runs.specs.answers.Reports.{IsReport, line_of}
use Rattle.csv_records.specs.input.Records.{AreItems, records_of}
use Rattle.csv_records.specs.lanes.Feeds.{LaneRow, feeds_of, lanes_meaning}
use Rattle.command_runs.specs.live.Replies.{most_rows}
use Rattle.command_runs.specs.live.Text.{Answers, fields_in, without_return}
use Rattle.element_core.specs.Terms.{Terms}
use Rattle.element_core.specs.declared.form.Form.TheVariants as form

-- ---- the lines of a plain text

-- each carriage return stands before a line feed, or is the last byte
abbrev pub ReturnsEndLines : List ℕ → Type 0
ReturnsEndLines bytes = (before after : List ℕ) (next : ℕ) → bytes ≡ before ++ 13 ∷ next ∷ after → next ≡ 10

-- a text with no byte order mark, no quote, and no carriage return but at the end of a line
pub record IsPlain (bytes : List ℕ) : Type 0 where
  pub no_mark : strip_bom bytes ≡ bytes
  pub no_quote : All (λ b. (b == 34) ≡ false) bytes
  pub returns : ReturnsEndLines bytes

-- whether a line has a byte
abbrev pub has_byte : List ℕ → Bool
has_byte [] = false
has_byte (b ∷ line) = true

-- the lines that have a byte, without the carriage return at their end
abbrev pub record_lines : List ℕ → List (List ℕ)
record_lines bytes = filter has_byte (map without_return (pieces_of bytes))

-- of a plain text the records that `csv` reads are the lines that have a byte, cut at their commas
abbrev pub LinesAreRecords : Type 0
LinesAreRecords = (bytes : List ℕ) → IsPlain bytes → records_of bytes ≡ map fields_in (record_lines bytes)

-- ---- the report of the lines

-- a line of a lane
abbrev pub LaneLine : Type 0
LaneLine = ℕ × List ℕ

-- the line of an answer to the row, in its lane and under some number
abbrev pub IsLaneRowLine : Terms → LaneRow → LaneLine → Type 0
IsLaneRowLine year row line = (line.0 ≡ row.0) × (number : ℕ) × (a : Answer) × IsAnswer row.1 year a × (line.1 ≡ line_of row.0 number a)

-- the lines of each lane, lane by lane
abbrev pub lane_by_lane : ℕ → List LaneLine → List ℕ
lane_by_lane lanes lines = concat (map concat (feeds_of lanes lines))

-- the text has a line for each row, in the order of the rows, and lane by lane these lines are the report that `lanes` writes of the rows
pub record IsReordered (lanes : ℕ) (year : Terms) (rows : List LaneRow) (text : List ℕ) : Type 0 where
  pub lines : List LaneLine
  pub whole : text ≡ concat (map (λ line. line.1) lines)
  pub each : AllZip (IsLaneRowLine year) rows lines
  pub report : IsReport year (feeds_of lanes rows) (lane_by_lane lanes lines)

-- If each record of a plain text means a row, no line is too long and no lane has more rows than numbers, the answers of `live` to its lines
-- in the human-readable form, in which `lanes` writes, are those of `lanes` in the order of the records.
abbrev pub LinesAreReport : Type 0
LinesAreReport = (lanes : ℕ) (year : Terms) (bytes text : List ℕ) (rows : List LaneRow)
    → IsPlain bytes → All (λ line. length line ≤ most_line) (record_lines bytes)
    → AreItems (lanes_meaning lanes) (records_of bytes) rows → All (λ feed. length feed ≤ most_rows) (feeds_of lanes rows)
    → Answers lanes form.HumanReadable year (pieces_of bytes) text → IsReordered lanes year rows text
