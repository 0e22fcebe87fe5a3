-- The options keep the counts within their limits.
use Rattle.command_runs.proofs.FewEnough.{count_fits}
use Rattle.command_runs.proofs.commands.live.run_live.Goals as goal

pub answer_live-wire-requires-clause-counts : goal.answer_live-wire-requires-clause-counts
answer_live-wire-requires-clause-counts g c κs within =
    let o = c.args.options.rows in (count_fits o.lanes o.some_lanes, count_fits o.workers o.some_workers)
