-- The middle row of the next row of cells is held, or the sheet has ended.
use Rattle.std.proofs.Common.{arith, length, refl, ◌+◌}
use Rattle.command_runs.proofs.CellReads.{at_end, at_next, row_left}
use Rattle.command_runs.proofs.columns.CellRows.leave_row.Goals as goal

pub to_row-requires : goal.to_row-requires
to_row-requires g c =
    let r = c.args.self.now in
    let (lent, given, gave) = c.requires.read in
    let was = rw c.requires.cells at gave in
    rw c.cell_height.ensures (row_left g.S.Source.left g.S.Source.failed r.grid r.images.size r.row (length was.passed) (length r.images.held + r.images.left)
    c.grids_keep_limits.ensures was.at.high (omega (arith, c.if-self-rows.true, c.rows.ensures)) was.at.above was.has.rest)

pub begin-requires : goal.begin-requires
begin-requires g c =
    let (lent, given, gave) = c.requires.read in
    let was = rw c.requires.cells at gave in
    let (bytes, p) = c.in-Ok-pass_rest.ensures in
    (lent, _, p.on lent was.sheets was.passed was.has)

pub returns-in-Ok-clause-on : goal.returns-in-Ok-clause-on
returns-in-Ok-clause-on g c = λ lent given gave.
    let was = rw c.requires.cells at gave in
    rw c.requires.cells (at_next g.S.Source.left g.S.Source.failed c.args.self.now _ c.grids_keep_limits.ensures c.requires.all
    (omega (arith, c.if-self-rows.true, c.rows.ensures)) (rw c.cell_height.ensures at c.in-Ok.ensures.on) c.in-Ok.ensures.held refl refl refl lent given was)

pub returns-in-Err-clause-on : goal.returns-in-Err-clause-on
returns-in-Err-clause-on g c = λ lent given gave.
    let was = rw c.requires.cells at gave in c.in-Err.ensures.on lent was.sheets was.passed was.has

pub returns-in-Ok-pass_rest-clause-on : goal.returns-in-Ok-pass_rest-clause-on
returns-in-Ok-pass_rest-clause-on g c = λ lent given gave.
    let was = rw c.requires.cells at gave in
    let (bytes, p) = c.in-Ok-pass_rest.ensures in
    c.begin.ensures.begins lent given (at_end g.S.Source.left g.S.Source.failed c.args.self.now _ bytes c.requires.all
    (λ less. omega (arith, less, c.if-self-rows.false, c.rows.ensures)) p refl lent given was)

pub returns-in-Err-pass_rest-clause-on : goal.returns-in-Err-pass_rest-clause-on
returns-in-Err-pass_rest-clause-on g c = λ lent given gave.
    let was = rw c.requires.cells at gave in c.in-Err-pass_rest.ensures lent was.sheets was.passed was.has
