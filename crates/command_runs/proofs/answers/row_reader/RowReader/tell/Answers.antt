-- A record that was read is counted, or refuses the source.
use Rattle.std.proofs.Common.{refl}
use Rattle.command_runs.proofs.answers.ReadRows.{row_refused, row_told, rows_before}
use Rattle.command_runs.proofs.answers.row_reader.RowReader.tell.Goals as goal

pub returns-in-Ok-clause-tells : goal.returns-in-Ok-clause-tells
returns-in-Ok-clause-tells g c = λ lanes lent items read.
    row_told _ _ lanes lent c.args.self.now _ items c.in-Ok.row refl refl refl c.saturating_add-self.ensures (rw c.in-Ok.is at read)

pub returns-in-Err-clause-tells : goal.returns-in-Err-clause-tells
returns-in-Err-clause-tells g c = λ lanes lent items told.
    let read = rw c.in-Err.is at told in
    let before = rows_before _ _ lanes lent c.args.self.now items c.in-Err.refusal read in
    let why = c.why_refused-why.ensures in
    row_refused _ _ lanes lent c.args.self.now _ items c.why_refused-why.result before.0 why.of_lanes why.count before.1 (why.why lanes lent items read) refl
