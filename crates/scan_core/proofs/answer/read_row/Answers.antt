use Rattle.scan_core.proofs.answer.read_row.Goals as goal

pub returns-in-Some : goal.returns-in-Some
returns-in-Some c = c.answer.ensures c.args.runs.now c.in-Some.ensures
