-- The run of each command is that of the command which was asked for.
use Rattle.command_runs.proofs.commands.run.Goals as goal

pub returns-in-Check : goal.returns-in-Check
returns-in-Check g c = rw c.in-Check.is c.run_check.ensures

pub returns-in-Print : goal.returns-in-Print
returns-in-Print g c = rw c.in-Print.is c.run_print.ensures

pub returns-in-Lanes : goal.returns-in-Lanes
returns-in-Lanes g c = rw c.in-Lanes.is c.run_lanes.ensures

pub returns-in-Scan : goal.returns-in-Scan
returns-in-Scan g c = rw c.in-Scan.is c.run_scan.ensures
