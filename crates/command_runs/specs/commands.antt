-- What each command makes of what it reads, a file for each command; what its words mean is in command_line.
pub mod Checks
pub mod Lanes
pub mod Lives
pub mod Prints
pub mod Scans
use Rattle.command_runs.specs.Runs.{Command}
use Rattle.command_runs.specs.commands.Checks.{check_command}
use Rattle.command_runs.specs.commands.Lanes.{lanes_command}
use Rattle.command_runs.specs.commands.Prints.{print_command}
use Rattle.command_runs.specs.commands.Scans.{scan_command}
use Rattle.command_line.specs.declared.commands.WholeInput.{WholeInput}
use Rattle.command_line.specs.declared.commands.WholeInput.TheVariants as batch

-- what a command over its whole input writes and refuses
abbrev pub command_of : WholeInput → Command
command_of (batch.Check year) = check_command year
command_of (batch.Print o) = print_command o
command_of (batch.Lanes o) = lanes_command o
command_of (batch.Scan o) = scan_command o
