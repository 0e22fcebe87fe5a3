-- The law, as it is proved in `CheckOnce`, by the law that is called.
use Rattle.command_runs.proofs.CheckOnce.{one_check as law}
use Rattle.command_runs.proofs.commands.check.one_check.Goals as goal

pub returns : goal.returns
returns c = law c.one_list_or_fault.ensures
