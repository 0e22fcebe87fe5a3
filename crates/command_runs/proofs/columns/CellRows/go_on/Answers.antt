use Rattle.std.proofs.Common.{arith, rules, ◌≤◌}
use Rattle.command_runs.proofs.columns.CellRows.go_on.Goals as goal

pub begin-requires : goal.begin-requires
begin-requires g c =
    let (lent, given, gave) = c.requires in
    let was = rw c.in-Sheets.is at gave in
    (lent, was.sheets, was.has)

pub returns-in-Sheets-clause-on : goal.returns-in-Sheets-clause-on
returns-in-Sheets-clause-on g c = λ lent given gave. c.begin.ensures.begins lent given (rw c.in-Sheets.is at gave)

pub leave_row-requires-clause-all : goal.leave_row-requires-clause-all
leave_row-requires-clause-all g c =
    let (lent, given, gave) = c.requires in
    let was = rw c.in-Cells.is at gave in
    let past : c.args.self.now.grid.columns ≤ c.args.self.now.column = search rules in
    omega (arith, was.column, past)
