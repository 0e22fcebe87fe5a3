-- The row of the cell that the reader is at is given, if it is at one.
use Rattle.std.proofs.Common.{◌+◌, ◌*◌, ◌≤◌, ◌≡◌, ◌∙◌, ap, arith, refl, rules, subst, sym}
use Rattle.std.proofs.Math.Nat.{mul-le-mul_right}
use Rattle.command_runs.proofs.CellReads.{cell_given}
use Rattle.command_runs.proofs.columns.CellRows.next_cell.Goals as goal

pub returns-in_default-clause-gives : goal.returns-in_default-clause-gives
returns-in_default-clause-gives g c = c.go_on.ensures.on

pub cut-requires-clause-held : goal.cut-requires-clause-held
cut-requires-clause-held g c =
    let (lent, given, gave) = c.requires in
    let was = rw c.in-Cells.is at (c.go_on.ensures.on lent given gave) in
    was.at.held

pub cut-requires-clause-columns : goal.cut-requires-clause-columns
cut-requires-clause-columns g c =
    let (lent, given, gave) = c.requires in
    let r = c.go_on.new.self in
    let was = rw c.in-Cells.is at (c.go_on.ensures.on lent given gave) in
    let low = c.go_on.ensures.column c.in-Cells.is in
    let most : (r.column + 1) * r.grid.width ≤ r.grid.columns * r.grid.width = mul-le-mul_right r.grid.width (omega (arith, low)) in
    let split : (r.column + 1) * r.grid.width ≡ r.column * r.grid.width + r.grid.width = grind arith in
    rw c.cell_width-wide.ensures (omega (arith, most, split, was.at.wide))

pub returns-in-Ok-clause-gives : goal.returns-in-Ok-clause-gives
returns-in-Ok-clause-gives g c = λ lent given gave.
    let r = c.go_on.new.self in
    let was = rw c.in-Cells.is at (c.go_on.ensures.on lent given gave) in
    rw c.in-Cells.is (cell_given g.S.Source.left g.S.Source.failed r _ c.in-Ok.runs c.grids_keep_limits.ensures r.images.ok (c.go_on.ensures.column c.in-Cells.is) refl refl refl refl
    c.in-Ok.ensures.row (rw c.cell_width-wide.ensures at c.in-Ok.ensures.dots) lent given was)

pub returns-in-Err-clause-gives : goal.returns-in-Err-clause-gives
returns-in-Err-clause-gives g c = λ lent given gave.
    let was = rw c.in-Cells.is at (c.go_on.ensures.on lent given gave) in
    record { same = was.has.same; refuses = (c.begun-begun.ensures.stop lent was.sheets).1 was.passed was.has; fails = was.has.works }
