use Rattle.scan_core.proofs.answer.read_widths.Goals as goal

pub returns-clause-ok : goal.returns-clause-ok
returns-clause-ok c = c.answer.ensures c.args.widths.now c.in_ok-find_widths.ensures.ok
