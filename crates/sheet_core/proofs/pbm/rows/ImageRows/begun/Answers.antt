-- What was read is known by where the reading stands.
use Rattle.sheet_core.proofs.pbm.RowFacts.{rows_stop, sheets_read, sheets_stop}
use Rattle.sheet_core.proofs.pbm.rows.ImageRows.begun.Goals as goal

pub returns-clause-read : goal.returns-clause-read
returns-clause-read g c = λ lent sheets h. sheets_read _ _ lent c.args.self.now sheets h

pub returns-clause-stop : goal.returns-clause-stop
returns-clause-stop g c = λ lent sheets. (sheets_stop _ _ lent c.args.self.now sheets, rows_stop _ _ lent c.args.self.now sheets)
