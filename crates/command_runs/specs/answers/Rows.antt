-- The rows of the records of a source: their answers, or why they are not answered (`answers/rows.rt`).
use Rattle.std.specs.Prelude.{◌≢◌, ℕ, List, [], Option}
use Rattle.csv_records.specs.input.Records.{Refuses, Takes}
use Rattle.csv_records.specs.lanes.Feeds.{feeds_of, lanes_meaning}
use Rattle.element_core.specs.Terms.{Terms}
use Rattle.command_runs.specs.answers.Reports.{IsReport}
use Rattle.command_runs.specs.declared.answers.rows.RowsFault.{RowsFault}
use Rattle.command_runs.specs.declared.answers.rows.RowsFault.TheVariants as rows

-- a source gave all its bytes, and this is the report of the answers to their rows
abbrev pub AnswersRows : ℕ → Terms → Option (List ℕ) → Option (List ℕ) → List ℕ → Type 0
AnswersRows lanes year left rest text = Takes (lanes_meaning lanes) (λ items. IsReport year (feeds_of lanes items) text) left rest

-- why the rows of the records of a source are not answered: the records are refused, or memory is; or only if they are taken and there is a row, a thread
-- could not be started
abbrev pub RefusesRows : ℕ → Option (List ℕ) → Option (List ℕ) → RowsFault → Type 0
RefusesRows lanes left rest (rows.Records fault) = Refuses (lanes_meaning lanes) left rest fault
RefusesRows lanes left rest rows.NoThread = Takes (lanes_meaning lanes) (λ items. items ≢ []) left rest
