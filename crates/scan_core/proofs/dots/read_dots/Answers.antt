use Rattle.scan_core.proofs.dots.read_dots.Goals as goal

pub returns : goal.returns
returns c = let f = c.find_dots.ensures in (f.0, f.1, f.2, c.answer.ensures f.0 f.3)
