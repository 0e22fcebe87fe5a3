-- How a run of `scan` ends if its images are refused (for `run_scan`).
use Rattle.std.proofs.Common.{List, Option, ℕ}
use Rattle.sheet_core.specs.Grids.{IsGrid}
use Rattle.command_runs.specs.Grids.{cells_of}
use Rattle.command_runs.specs.commands.Scans.{RefusesImages, RefusesScan}
use Rattle.command_runs.specs.declared.fault.CommandFault.{CommandFault}
use Rattle.command_runs.specs.declared.fault.CommandFault.TheVariants as command
use Rattle.command_line.specs.declared.commands.scan.options.ScanOptions.{ScanOptions}

-- a fault of the images in a grid is the command's
pub refuses_in_grid : (o : ScanOptions) (left rest : Option (List ℕ)) (fault : CommandFault) → IsGrid (cells_of o.grid) → RefusesImages o left rest fault
    → RefusesScan o left rest fault
refuses_in_grid o left rest command.ReadFault grid why = (grid, why)
refuses_in_grid o left rest command.WriteFault grid why = (grid, why)
refuses_in_grid o left rest (command.Record i f) grid why = (grid, why)
refuses_in_grid o left rest command.NoMemory grid why = (grid, why)
refuses_in_grid o left rest command.InputSize grid why = (grid, why)
refuses_in_grid o left rest command.BadGrid grid why = absurd why
refuses_in_grid o left rest (command.LabelKind i) grid why = (grid, why)
refuses_in_grid o left rest (command.LabelWidth i) grid why = (grid, why)
refuses_in_grid o left rest command.NotP4 grid why = (grid, why)
refuses_in_grid o left rest command.PbmHeader grid why = (grid, why)
refuses_in_grid o left rest command.Truncated grid why = (grid, why)
refuses_in_grid o left rest command.PbmSize grid why = (grid, why)
refuses_in_grid o left rest command.NoThread grid why = (grid, why)
