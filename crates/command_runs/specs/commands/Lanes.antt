-- What the command `lanes` writes and refuses.
use Rattle.std.specs.Prelude.{ℕ, List, Option}
use Rattle.command_runs.specs.answers.Reports.{IsReport}
use Rattle.command_runs.specs.answers.Rows.{RefusesRows}
use Rattle.command_runs.specs.declared.answers.rows.RowsFault.TheVariants as rows
use Rattle.csv_records.specs.lanes.Feeds.{feeds_of, lanes_meaning}
use Rattle.command_runs.specs.Runs.{Command, RefusesRecords, WritesOnce, WritesRecords}
use Rattle.command_runs.specs.declared.fault.CommandFault.{CommandFault}
use Rattle.command_runs.specs.declared.fault.CommandFault.TheVariants as command
use Rattle.command_line.specs.declared.commands.lanes.options.LaneOptions.{LaneOptions}

-- why `lanes` refuses the input: its records, or a thread that could not be started, as `RefusesRows` says it
abbrev pub RefusesLanes : ℕ → Option (List ℕ) → Option (List ℕ) → CommandFault → Type 0
RefusesLanes lanes left rest command.NoThread = RefusesRows lanes left rest rows.NoThread
RefusesLanes lanes left rest f = RefusesRecords (lanes_meaning lanes) left rest f

-- the report of the answers to the rows that records give each lane
abbrev pub lanes_command : LaneOptions → Command
lanes_command o = record {
  writes = WritesRecords (lanes_meaning o.lanes) (λ rows text. IsReport o.year (feeds_of o.lanes rows) text);
  refuses =
      RefusesLanes o.lanes;
}

-- the law `one_lanes`
abbrev pub OneLanes : Type 0
OneLanes = (o : LaneOptions) → WritesOnce (lanes_command o)
