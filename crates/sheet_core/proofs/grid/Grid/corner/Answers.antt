use Rattle.std.proofs.Common.{◌+◌, ◌*◌, ◌/◌, ◌%◌, ◌<◌, ◌≤◌, sym, subst, arith}
use Rattle.sheet_core.specs.Grids.{Cells}
use Rattle.sheet_core.proofs.CornerFacts.{corner_fits}
use Rattle.sheet_core.proofs.grid.Grid.corner.Goals as goal

pub returns-clause-within : goal.returns-clause-within
returns-clause-within c =
    let i = c.self.inside in
    let g : Cells = record { dots = i.module_dots; width = i.cell_width; height = i.cell_height; columns = i.columns; rows = i.rows } in
    let low : c.args.cell < g.columns * g.rows = subst (λ (g : Cells). c.args.cell < g.columns * g.rows) (sym c.self.view_is) c.requires in
    let least = c.self.invariant.columns_least in
    subst (λ (g : Cells). (c.args.cell % i.columns * i.cell_width + g.width ≤ g.columns * g.width)
    × (c.args.cell / i.columns * i.cell_height + g.height ≤ g.rows * g.height)) c.self.view_is
    (corner_fits i.columns i.rows i.cell_width i.cell_height c.args.cell (omega arith) low)
