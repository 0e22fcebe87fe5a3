-- The rows of the lines that were passed over, which have no byte, are none.
use Rattle.std.proofs.Common.{List, length, ℕ, ◌≡◌}
use Rattle.std.specs.Borrow.{MutBor}
use Rattle.csv_records.specs.lanes.Feeds.{LaneRow}
use Rattle.command_runs.specs.inner.HeldInputs.{held_of}
use Rattle.command_runs.specs.inner.RowReaders.{GaveRows}
use Rattle.command_runs.specs.declared.answers.row_reader.Course.TheVariants as course
use Rattle.command_runs.proofs.answers.ReadRows.{AtLines}
use Rattle.command_runs.proofs.answers.row_reader.RowReader.next_line.Given as goal

abbrev pub invariant-lines : goal.invariant-lines
invariant-lines g l = record {
  course : l.self.course ≡ course.Lines;
  room : l.self.input.room ≡ l.fn.self.input.room;
  at : (lanes : ℕ) (lent : MutBor _) (items : List LaneRow) → GaveRows g.S.Source.left g.S.Source.failed lanes lent l.fn.self items
      → AtLines g.S.Source.left g.S.Source.failed lanes lent l.self items;
}

abbrev pub decreases-lines : goal.decreases-lines
decreases-lines g l = length (held_of l.self.input)
