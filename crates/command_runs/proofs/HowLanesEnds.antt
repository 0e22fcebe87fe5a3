-- Why a run of `lanes` is refused if the rows of its records are not answered (for `run_lanes`).
use Rattle.std.proofs.Common.{◌≡◌, List, Option, refl, ℕ}
use Rattle.command_runs.specs.answers.Rows.{RefusesRows}
use Rattle.command_runs.specs.declared.answers.rows.RowsFault.{RowsFault}
use Rattle.command_runs.specs.declared.answers.rows.RowsFault.TheVariants as rows
use Rattle.csv_records.specs.declared.input.fault.RecordsFault.TheVariants as records
use Rattle.command_runs.specs.Faults.{of_rows}
use Rattle.command_runs.specs.commands.Lanes.{RefusesLanes}
use Rattle.command_runs.specs.declared.fault.CommandFault.TheVariants as command

-- a fault of the rows, as the command's
pub rows_unanswered : (lanes : ℕ) (left rest : Option (List ℕ)) (fault : RowsFault) → RefusesRows lanes left rest fault
    → RefusesLanes lanes left rest (of_rows fault)
rows_unanswered lanes left rest (rows.Records records.ReadFault) why = why
rows_unanswered lanes left rest (rows.Records records.InputSize) why = why
rows_unanswered lanes left rest (rows.Records (records.Record i f)) why = why
rows_unanswered lanes left rest (rows.Records records.NoMemory) why = tt
rows_unanswered lanes left rest rows.NoThread why = why

-- none is a failed write, and only that of the records is a failed read
pub rows_told : (f : RowsFault) → (of_rows f ≡ command.WriteFault → ⊥) × (of_rows f ≡ command.ReadFault → f ≡ rows.Records records.ReadFault)
rows_told (rows.Records records.ReadFault) = (λ same. cc, λ same. refl)
rows_told (rows.Records records.InputSize) = (λ same. cc, λ same. cc)
rows_told (rows.Records (records.Record i f)) = (λ same. cc, λ same. cc)
rows_told (rows.Records records.NoMemory) = (λ same. cc, λ same. cc)
rows_told rows.NoThread = (λ same. cc, λ same. cc)
