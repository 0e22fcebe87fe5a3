-- A turn that is written and then a read leave a live input that has come further.
use Rattle.command_runs.proofs.live.input.LiveTraffic.wait.Goals as goal

pub returns-clause-came : goal.returns-clause-came
returns-clause-came g c = λ start given brought was even.
    c.read_on.ensures.came start given brought (c.write_turn.ensures.came start given brought was even)
