-- No row was given so far; each turn reads on or leaves the lines.
use Rattle.std.proofs.Common.{◌+◌}
use Rattle.command_runs.specs.inner.RowReaders.{ReadsOn, rank}
use Rattle.command_runs.proofs.answers.row_reader.RowReader.next_row.Given as goal

abbrev pub invariant-pieces : goal.invariant-pieces
invariant-pieces g l = ReadsOn g.S.Source.left g.S.Source.failed l.fn.self l.self

abbrev pub decreases-pieces : goal.decreases-pieces
decreases-pieces g l = rank l.self.course + l.self.input.room
