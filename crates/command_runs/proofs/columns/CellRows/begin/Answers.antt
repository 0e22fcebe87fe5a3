use Rattle.std.proofs.Common.{Ok, refl}
use Rattle.command_runs.proofs.CellReads.{begun_cells}
use Rattle.command_runs.proofs.columns.CellRows.begin.Goals as goal

pub returns-in-Ok-clause-begins : goal.returns-in-Ok-clause-begins
returns-in-Ok-clause-begins g c = λ lent given was.
    begun_cells _ _ c.args.self.now _ (Ok c.in-Ok.course) c.in-Ok.course refl refl refl lent given was (c.in-Ok.ensures lent was.sheets was.has) refl

pub returns-in-Err-clause-begins : goal.returns-in-Err-clause-begins
returns-in-Err-clause-begins g c = λ lent given was. c.in-Err.ensures lent was.sheets was.has
