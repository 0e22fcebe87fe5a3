-- Rows of records that are read while workers answer them (`answers/rows.rt`): rows given and answered, and the result at the end.
use Rattle.std.specs.Prelude.{◌≡◌, ℕ, Bool, false, true, List, [], IfErr, IfOk, Option, Result, Ok, Err, String, map, replicate, string_bytes}
use Rattle.std.specs.Borrow.{MutBor}
use Rattle.std.specs.Global.{Vec}
use Rattle.std.proofs.Common.{Global}
use Rattle.std.specs.List.{concat}
use Rattle.lane_core.specs.declared.job.Plain.{Plain}
use Rattle.element_core.specs.Terms.{Terms}
use Rattle.csv_records.specs.input.Records.{Takes}
use Rattle.csv_records.specs.lanes.Feeds.{LaneRow, feeds_of, lanes_meaning}
use Rattle.csv_records.specs.declared.input.fault.RecordsFault.TheVariants as refused
use Rattle.command_runs.specs.Runs.{TellsFault}
use Rattle.command_runs.specs.answers.Reports.{IsReport}
use Rattle.command_runs.specs.answers.Rows.{RefusesRows}
use Rattle.command_runs.specs.inner.AnswerLines.{AreLinesOf}
use Rattle.command_runs.specs.inner.RowReaders.{GaveRows}
use Rattle.command_runs.specs.declared.answers.row_reader.Course.{Course}
use Rattle.command_runs.specs.declared.answers.row_reader.Course.TheVariants as course
use Rattle.command_runs.specs.declared.answers.row_reader.RowReader.{RowReader}
use Rattle.command_runs.specs.declared.answers.rows.RecordRows.{RecordRows}
use Rattle.command_runs.specs.declared.answers.rows.RowsFault.{RowsFault}
use Rattle.command_runs.specs.declared.answers.rows.RowsFault.TheVariants as rows
use Rattle.command_runs.specs.declared.answers.serving.AnswerFault.{AnswerFault}

-- whether all records were read
abbrev pub is_ended : Course → Bool
is_ended course.Ended = true
is_ended _ = false

-- the rows of the first records of a source, and the lines of what was brought
pub record HasGiven {S : Type 0} (left : S → Option (List ℕ)) (failed : S → Bool) (start s : RecordRows S) (given : List (List (List ℕ)))
    (brought : List (List Plain)) : Type 0 where
  pub items : List LaneRow
  pub gave : GaveRows left failed start.rows.lanes start.rows.input.source s.rows items
  pub fed : given ≡ feeds_of start.rows.lanes items
  pub lines : AreLinesOf brought (map string_bytes s.texts.items)

-- no row of the source was given yet, and no lane has a line
abbrev pub BeginsUnanswered : {S : Type 0} → (S → Option (List ℕ)) → (S → Bool) → ℕ → RowReader S → List (String Global) → Type 0
BeginsUnanswered left failed lanes r texts = GaveRows left failed lanes r.input.source r [] × (map string_bytes texts ≡ replicate lanes [])

-- how the rows of a source were answered: all, and these are the lines of each lane; or not all
abbrev pub AreAnswered : {S : Type 0} → (S → Option (List ℕ)) → (S → Bool) → ℕ → Terms → MutBor S → RowReader S → Result (Vec (String Global)) AnswerFault → Type 0
AreAnswered left failed lanes year lent r (Ok texts) = (items : List LaneRow) × GaveRows left failed lanes lent r items × (is_ended r.course ≡ true)
    × IsReport year (feeds_of lanes items) (concat (map string_bytes texts.items))
AreAnswered left failed lanes year lent r (Err fault) = (items : List LaneRow) × GaveRows left failed lanes lent r items

-- the result for a source whose rows are not all answered
pub record IsToldOf {S : Type 0} (left : S → Option (List ℕ)) (failed : S → Bool) (lanes : ℕ) (lent : MutBor S) (r : RowReader S) (told : Result (String Global) RowsFault) : Type 0 where
  pub same : r.input.source.ghost_name ≡ lent.ghost_name
  pub nothing : IfOk told (λ lines. (string_bytes lines ≡ []) × Takes (lanes_meaning lanes) (λ items. items ≡ []) (left lent.now) (left r.input.source.now))
  pub why : IfErr told (RefusesRows lanes (left lent.now) (left r.input.source.now))
  pub fault : TellsFault failed lent.now r.input.source.now told (rows.Records refused.ReadFault)

-- the result for it, whatever the source and whatever rows were given
abbrev pub TellsOfRows : {S : Type 0} → (S → Option (List ℕ)) → (S → Bool) → RowReader S → Result (String Global) RowsFault → Type 0
TellsOfRows {S} left failed r told = (lanes : ℕ) (lent : MutBor S) (items : List LaneRow) → GaveRows left failed lanes lent r items → IsToldOf left failed lanes lent r told
