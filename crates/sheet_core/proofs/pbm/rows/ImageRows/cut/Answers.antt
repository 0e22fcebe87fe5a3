use Rattle.std.proofs.Common.{◌∙◌}
use Rattle.sheet_core.proofs.pbm.RowDots.{shows_dots}
use Rattle.sheet_core.proofs.pbm.rows.ImageRows.cut.Goals as goal

pub returns-in-Ok-clause-dots : goal.returns-in-Ok-clause-dots
returns-in-Ok-clause-dots g c =
    shows_dots c.args.self.now.size c.args.self.now.held c.args.x c.args.count c.in-Ok.runs
    (rw (← c.as_slice.ensures, ← c.from.ensures, ← c.from-2.ensures) c.in-Ok.ensures.dots) c.requires.held c.requires.columns
