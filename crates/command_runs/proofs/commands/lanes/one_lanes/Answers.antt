-- The law, as it is proved in `LanesOnce`, by the laws that are called.
use Rattle.command_runs.proofs.LanesOnce.{one_lanes as law}
use Rattle.command_runs.proofs.commands.lanes.one_lanes.Goals as goal

pub returns : goal.returns
returns c = law c.row_or_fault.ensures c.one_answer.ensures
