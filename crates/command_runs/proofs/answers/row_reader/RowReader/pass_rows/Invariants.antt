-- Whatever rows were given at first, some more were given so far; each turn gives one more, and there are few.
use Rattle.std.proofs.Common.{◌+◌, ◌-◌}
use Rattle.csv_records.specs.input.Records.{most_bytes}
use Rattle.command_runs.specs.inner.RowReaders.{PassesRows}
use Rattle.command_runs.proofs.answers.row_reader.RowReader.pass_rows.Given as goal

abbrev pub invariant-rows : goal.invariant-rows
invariant-rows g l = PassesRows g.S.Source.left g.S.Source.failed l.fn.self l.self

abbrev pub decreases-rows : goal.decreases-rows
decreases-rows g l = most_bytes + 2 - l.self.count
