-- What the command `check` writes and refuses.
use Rattle.std.specs.Prelude.{◌≡◌}
use Rattle.csv_records.specs.check.Checks.{check_meaning, check_report}
use Rattle.element_core.specs.Terms.{Terms}
use Rattle.command_runs.specs.Runs.{Command, RefusesRecords, WritesOnce, WritesRecords}

-- a line for each record, under the reference year
abbrev pub check_command : Terms → Command
check_command year = record {
  writes = WritesRecords (check_meaning year) (λ answers text. text ≡ check_report answers);
  refuses =
      RefusesRecords (check_meaning year);
}

-- the law `one_check`
abbrev pub OneCheck : Type 0
OneCheck = (year : Terms) → WritesOnce (check_command year)
