use Rattle.scan_core.proofs.answer.answer_in.Goals as goal

pub returns : goal.returns
returns c = c.answer.ensures c.args.widths.now c.found_in.ensures
