-- The rows of the records that a source gives (`answers/row_reader.rt`): which records were read of what was taken, and how the reading goes on.
use Rattle.std.specs.Prelude.{◌≡◌, ◌≤◌, ◌<◌, ◌+◌, ◌++◌, ◌∷◌, ⊤, ℕ, Bool, false, true, List, [], Option, Some, None, Result, Ok, Err, length}
use Rattle.std.specs.Borrow.{MutBor}
use Rattle.std.specs.Io.KnownBytes.{IsAtEnd}
use Rattle.csv_records.specs.input.Reading.{HasRead}
use Rattle.csv_records.specs.input.Records.{AreItems, Fields, Refuses, most_bytes, records_of}
use Rattle.csv_records.specs.lanes.Feeds.{LaneRow, lanes_meaning}
use Rattle.csv_records.specs.declared.input.fault.RecordsFault.{RecordsFault}
use Rattle.csv_records.specs.declared.input.fault.RecordsFault.TheVariants as refused
use Rattle.command_runs.specs.declared.answers.row_reader.Course.{Course}
use Rattle.command_runs.specs.declared.answers.row_reader.Course.TheVariants as course
use Rattle.command_runs.specs.declared.answers.row_reader.RowReader.{RowReader}
use Rattle.command_runs.specs.declared.answers.held_input.HeldInput.{HeldInput}
use Rattle.command_runs.specs.inner.HeldInputs.{HasTaken, StopsReading, held_of}
use Rattle.digits_core.specs.declared.source.InputFault.{InputFault}
use Rattle.csv_records.specs.declared.input.fault.RecordRefusal.{RecordRefusal}
use Rattle.csv_records.specs.declared.input.fault.RecordRefusal.TheVariants as one
use Rattle.command_runs.specs.inner.Lines.{IsLastLine}
use Rattle.command_runs.specs.live.Laws.{IsPlain}

-- of what was taken these records were read, and the others are those of what is held and of whatever follows
abbrev pub HasCut : List ℕ → List ℕ → List Fields → Type 0
HasCut taken held rows = (more : List ℕ) → records_of (taken ++ more) ≡ rows ++ records_of (held ++ more)

-- where the reading of lines stands after these records: what is held is plain, and there are no more records than bytes that are held no longer
abbrev pub StandsAt : List ℕ → List ℕ → List Fields → Type 0
StandsAt taken held rows = HasCut taken held rows × IsPlain held × (length rows + length held ≤ length taken)

-- where the reading stands after these records; at the end there are at most one more than bytes, as `read_few` of csv_records has it
abbrev pub StandsAfter : Course → List ℕ → List ℕ → List Fields → Type 0
StandsAfter course.Lines taken held rows = StandsAt taken held rows
StandsAfter course.LastLine taken held rows = (records_of taken ≡ rows ++ records_of held) × IsPlain held × (length rows + length held ≤ length taken)
    × IsLastLine held
StandsAfter (course.Csv r) taken held rows = (front more : List Fields) × (bytes : List ℕ) × HasRead bytes r.value more × (rows ≡ front ++ more)
    × (records_of taken ≡ front ++ records_of bytes) × (length front + length bytes ≤ length taken)
StandsAfter course.Ended taken held rows = (rows ≡ records_of taken) × (length rows ≤ length taken + 1)
StandsAfter (course.Refused fault) taken held rows = ⊥

-- whether a source has given all; of a refused input nothing is claimed by it, since `StandsAfter` has no such case
abbrev pub is_taken : Course → Bool
is_taken course.Lines = false
is_taken _ = true

-- whether no row follows: all records were read, or the input is refused
abbrev pub is_over : Course → Bool
is_over course.Ended = true
is_over (course.Refused fault) = true
is_over _ = false

-- of a source that was lent these records were read
pub record HasReadRows {S : Type 0} (left : S → Option (List ℕ)) (failed : S → Bool) (lent : MutBor S) (r : RowReader S) (rows : List Fields) : Type 0 where
  pub taken : List ℕ
  pub input : HasTaken left failed lent r.input taken
  pub stands : StandsAfter r.course taken (held_of r.input) rows
  pub all : is_taken r.course ≡ true → IsAtEnd (left r.input.source.now)

-- a source that was lent is refused for this
pub record IsRefusedFor {S : Type 0} (left : S → Option (List ℕ)) (failed : S → Bool) (lanes : ℕ) (lent : MutBor S) (i : HeldInput S) (fault : RecordsFault) : Type 0 where
  pub same : i.source.ghost_name ≡ lent.ghost_name
  pub refuses : Refuses (lanes_meaning lanes) (left lent.now) (left i.source.now) fault
  pub fails : failed lent.now ≡ false → (fault ≡ refused.ReadFault → failed i.source.now ≡ true) × (failed i.source.now ≡ true → fault ≡ refused.ReadFault)

-- how far the reading has come, or why it has stopped
abbrev pub HasReadTo : {S : Type 0} → (S → Option (List ℕ)) → (S → Bool) → MutBor S → RowReader S → Course → List Fields → Type 0
HasReadTo left failed lent r (course.Refused fault) rows = IsRefusedFor left failed r.lanes lent r.input fault
HasReadTo left failed lent r course.Lines rows = HasReadRows left failed lent r rows
HasReadTo left failed lent r course.LastLine rows = HasReadRows left failed lent r rows
HasReadTo left failed lent r (course.Csv records) rows = HasReadRows left failed lent r rows
HasReadTo left failed lent r course.Ended rows = HasReadRows left failed lent r rows

-- these are the rows that were given, one of each of these records, which are at most one more than an input has bytes (`StandsAfter`)
pub record KeepsRows {S : Type 0} (lanes : ℕ) (r : RowReader S) (rows : List Fields) (items : List LaneRow) : Type 0 where
  pub of_lanes : r.lanes ≡ lanes
  pub count : r.count ≡ length rows
  pub means : AreItems (lanes_meaning lanes) rows items
  pub few : length rows ≤ most_bytes + 1

-- of a source that was lent, the rows of its first records were given
abbrev pub GaveRows : {S : Type 0} → (S → Option (List ℕ)) → (S → Bool) → ℕ → MutBor S → RowReader S → List LaneRow → Type 0
GaveRows left failed lanes lent r items = (rows : List Fields) × KeepsRows lanes r rows items × HasReadTo left failed lent r r.course rows

-- of some source, some rows were given
abbrev pub WasRead : {S : Type 0} → (S → Option (List ℕ)) → (S → Bool) → RowReader S → Type 0
WasRead {S} left failed r = (lanes : ℕ) × (lent : MutBor S) × (items : List LaneRow) × GaveRows left failed lanes lent r items

-- no row was given yet, and the source is as it was lent
abbrev pub BeginsRows : {S : Type 0} → (S → Option (List ℕ)) → (S → Bool) → ℕ → MutBor S → RowReader S → Type 0
BeginsRows left failed lanes lent r = GaveRows left failed lanes lent r [] × (r.input.source ≡ lent)

-- of a source that was lent, the rows of its first records were given, and behind them this one, if there is one: `items` are the rows before it
abbrev pub GaveNext : {S : Type 0} → (S → Option (List ℕ)) → (S → Bool) → ℕ → MutBor S → Option LaneRow → RowReader S → List LaneRow → Type 0
GaveNext left failed lanes lent None r items = GaveRows left failed lanes lent r items
GaveNext left failed lanes lent (Some row) r items = (row.0 < lanes) × GaveRows left failed lanes lent r (items ++ row ∷ [])

-- what becomes of a reader that gives its next row, or none
abbrev pub GivesNextRow : {S : Type 0} → (S → Option (List ℕ)) → (S → Bool) → RowReader S → Option LaneRow → RowReader S → Type 0
GivesNextRow {S} left failed old next new = (lanes : ℕ) (lent : MutBor S) (items : List LaneRow) → GaveRows left failed lanes lent old items
    → GaveNext left failed lanes lent next new items

-- a record with these fields means this row of a lane, or is refused for this fault; of refused memory nothing is said
abbrev pub IsMeant : ℕ → Fields → Result LaneRow RecordRefusal → Type 0
IsMeant lanes fields (Ok row) = lanes_meaning lanes fields (Ok row) × (row.0 < lanes)
IsMeant lanes fields (Err (one.Record f)) = lanes_meaning lanes fields (Err f)
IsMeant lanes fields (Err one.NoMemory) = ⊤

-- one more record was read, and means this; if memory was refused, only the rows that were given and what was taken are known
abbrev pub ReadRecord : {S : Type 0} → (S → Option (List ℕ)) → (S → Bool) → ℕ → MutBor S → RowReader S → List LaneRow → Result LaneRow RecordRefusal → Type 0
ReadRecord left failed lanes lent r items (Ok row) = (rows : List Fields) × (fields : Fields) × KeepsRows lanes r rows items
    × HasReadRows left failed lent r (rows ++ fields ∷ []) × IsMeant lanes fields (Ok row)
ReadRecord left failed lanes lent r items (Err (one.Record f)) = (rows : List Fields) × (fields : Fields) × KeepsRows lanes r rows items
    × HasReadRows left failed lent r (rows ++ fields ∷ []) × IsMeant lanes fields (Err (one.Record f))
ReadRecord left failed lanes lent r items (Err one.NoMemory) = (rows : List Fields) × (taken : List ℕ) × KeepsRows lanes r rows items
    × HasTaken left failed lent r.input taken

-- why the input is refused if a record has this error; the lanes and the count of records stay
pub record WhyRefused {S : Type 0} (left : S → Option (List ℕ)) (failed : S → Bool) (old : RowReader S) (refusal : RecordRefusal) (new : RowReader S)
    (fault : RecordsFault) : Type 0 where
  pub of_lanes : new.lanes ≡ old.lanes
  pub count : new.count ≡ old.count
  pub why : (lanes : ℕ) (lent : MutBor S) (items : List LaneRow) → ReadRecord left failed lanes lent old items (Err refusal)
      → IsRefusedFor left failed lanes lent new.input fault

-- what becomes of a reader that gives the row of a record, or is refused for it
abbrev pub TellsRow : {S : Type 0} → (S → Option (List ℕ)) → (S → Bool) → RowReader S → Result LaneRow RecordRefusal → Option LaneRow → RowReader S → Type 0
TellsRow {S} left failed old row next new = (lanes : ℕ) (lent : MutBor S) (items : List LaneRow) → ReadRecord left failed lanes lent old items row
    → GaveNext left failed lanes lent next new items

-- whatever rows the old reader has given, the new one has given these and no others
abbrev pub ReadsOn : {S : Type 0} → (S → Option (List ℕ)) → (S → Bool) → RowReader S → RowReader S → Type 0
ReadsOn {S} left failed old new = (lanes : ℕ) (lent : MutBor S) (items : List LaneRow) → GaveRows left failed lanes lent old items
    → GaveRows left failed lanes lent new items

-- what becomes of a reader that reads the next line of what is held, if there is one
abbrev pub ReadsLine : {S : Type 0} → (S → Option (List ℕ)) → (S → Bool) → RowReader S → Option (Result LaneRow RecordRefusal) → RowReader S → Type 0
ReadsLine left failed old None new = ReadsOn left failed old new
ReadsLine {S} left failed old (Some row) new = (lanes : ℕ) (lent : MutBor S) (items : List LaneRow) → GaveRows left failed lanes lent old items
    → ReadRecord left failed lanes lent new items row

-- a reader of lines stays one, with as much to come; if it gave no line, no whole one is held
pub record StaysAtLines {S : Type 0} (old : RowReader S) (line : Option (Result LaneRow RecordRefusal)) (new : RowReader S) : Type 0 where
  pub at_lines : new.course ≡ course.Lines
  pub none : line ≡ None → IsLastLine (held_of new.input)
  pub room : new.input.room ≡ old.input.room

-- lines are read, and no whole one is held (`course.LastLine` comes only when the source has given all)
abbrev pub IsAtLastLine : {S : Type 0} → RowReader S → Type 0
IsAtLastLine r = (r.course ≡ course.Lines) × IsLastLine (held_of r.input)

-- 1 while lines are read, and then 0: with the room it falls each time that the reading goes on (`next_row`)
abbrev pub rank : Course → ℕ
rank course.Lines = 1
rank _ = 0

-- how the reading goes on from where it stands: less comes, or lines are read no longer
abbrev pub LeadsTo : {S : Type 0} → (S → Option (List ℕ)) → (S → Bool) → (List ℕ → List ℕ → List Fields → Type 0) → HeldInput S → Result Course InputFault
    → HeldInput S → Type 0
LeadsTo {S} left failed from old (Ok k) new = (rank k + new.room ≤ old.room)
    × ((lent : MutBor S) (taken : List ℕ) (rows : List Fields) → HasTaken left failed lent old taken → from taken (held_of old) rows
    → (now : List ℕ) × HasTaken left failed lent new now × StandsAfter k now (held_of new) rows × (is_taken k ≡ true → IsAtEnd (left new.source.now)))
LeadsTo left failed from old (Err fault) new = (new.room ≤ old.room) × StopsReading left failed old fault new

-- from where no whole line is held
abbrev pub GoesOnAs : {S : Type 0} → (S → Option (List ℕ)) → (S → Bool) → HeldInput S → Result Course InputFault → HeldInput S → Type 0
GoesOnAs left failed = LeadsTo left failed (λ taken held rows. StandsAfter course.Lines taken held rows × IsLastLine held)

-- from where what is held may be other than plain
abbrev pub GoesToCsv : {S : Type 0} → (S → Option (List ℕ)) → (S → Bool) → HeldInput S → Result Course InputFault → HeldInput S → Type 0
GoesToCsv left failed = LeadsTo left failed (λ taken held rows. HasCut taken held rows × (length rows + length held ≤ length taken))

-- what becomes of a reader that goes on where no whole line is held
abbrev pub GoesOnFrom : {S : Type 0} → (S → Option (List ℕ)) → (S → Bool) → RowReader S → RowReader S → Type 0
GoesOnFrom left failed old new = ReadsOn left failed old new × (rank new.course + new.input.room < 1 + old.input.room)

-- what a reader is after rows were skipped
abbrev pub PassesRows : {S : Type 0} → (S → Option (List ℕ)) → (S → Bool) → RowReader S → RowReader S → Type 0
PassesRows {S} left failed old new = (lanes : ℕ) (lent : MutBor S) (items : List LaneRow) → GaveRows left failed lanes lent old items
    → (all : List LaneRow) × GaveRows left failed lanes lent new all
