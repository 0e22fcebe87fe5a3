-- The `Cells` of sheet_core that the `GridOptions` of command_line ask for (`grid.rt`).
use Rattle.sheet_core.specs.Grids.{Cells}
use Rattle.command_line.specs.declared.grid_options.GridOptions.{GridOptions}

-- the numbers of the options, under the names of `Cells`
abbrev pub cells_of : GridOptions → Cells
cells_of o = record { dots = o.module_dots; width = o.width; height = o.height; columns = o.columns; rows = o.rows }
