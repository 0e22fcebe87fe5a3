use Rattle.std.proofs.Common.{subst}
use Rattle.sheet_core.specs.Grids.{Cells, IsGrid}
use Rattle.sheet_core.proofs.OneLabelSymbol.{all_printed}
use Rattle.sheet_core.proofs.pbm.print.print_pbm.Goals as goal

pub write_sheets-requires-clause-symbols : goal.write_sheets-requires-clause-symbols
write_sheets-requires-clause-symbols g c =
    let p = all_printed c.args.grid c.args.labels.now c.in_default.ensures.ok in
    (p.symbols, p.drawn, p.fit)

pub returns-in-Ok-write_sheets-clause-ok : goal.returns-in-Ok-write_sheets-clause-ok
returns-in-Ok-write_sheets-clause-ok g c =
    let k : Cells = c.args.grid in
    let p = all_printed k c.args.labels.now c.in_default.ensures.ok in
    let out = c.in-Ok-write_sheets.ensures.ok p.symbols p.drawn in
    (out.0, record { grid = subst IsGrid c.grid.view_is c.grid.invariant; symbols = p.symbols; drawn = p.drawn; fit = p.fit; shown = out.1 }, out.2)

pub returns-clause-cut : goal.returns-clause-cut
returns-clause-cut g c = λ cut.
    let k : Cells = c.args.grid in
    let p = all_printed k c.args.labels.now c.in_default.ensures.ok in
    let out = c.in-Err-write_sheets.ensures.err p.symbols p.drawn in
    (out.0, record { grid = subst IsGrid c.grid.view_is c.grid.invariant; symbols = p.symbols; drawn = p.drawn; fit = p.fit; shown = out.1 }, out.2)
