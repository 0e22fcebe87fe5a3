-- The law, as it is proved in `PrintOnce`, by the laws that are called.
use Rattle.command_runs.proofs.PrintOnce.{one_print as law}
use Rattle.command_runs.proofs.commands.print.one_print.Goals as goal

pub returns : goal.returns
returns c = law c.one_list_or_fault.ensures c.one_printed.ensures
