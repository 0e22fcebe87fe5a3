-- What the hub served is what the reader gave, all of it if it ended well.
use Rattle.std.proofs.Common.{[], ap, map, refl, replicate, string_bytes, subst, sym}
use Rattle.hub_core.specs.Traffics.{IsKept}
use Rattle.command_runs.specs.inner.CellRows.{GaveCells}
use Rattle.command_runs.proofs.answers.LinesAsBrought.{no_lines}
use Rattle.command_runs.proofs.answers.CellsServed.{cells_of_end, cells_reported, same_source}
use Rattle.command_runs.proofs.answers.cells.serve_cells.Goals as goal

pub serve_traffic-requires-clause-fresh : goal.serve_traffic-requires-clause-fresh
serve_traffic-requires-clause-fresh g c κs within =
    let (gave, texts) = c.requires.fresh in
    record { grid = refl; gave = gave; lines = no_lines c.args.lanes (map string_bytes c.args.texts.items) texts }

pub returns-in-Ok-default-Done-clause-answered : goal.returns-in-Ok-default-Done-clause-answered
returns-in-Ok-default-Done-clause-answered g c =
    let was = c.in-Ok-default-Done.ensures.served (subst IsKept (sym c.in-Ok-default-Done.field-0-1-is) tt) in
    let end = was.4 c.in-Ok-default-Done.field-0-1-is in
    let has = was.2 in
    let texts = map string_bytes c.in-Ok-default-Done.traffic.texts.items in
    (has.grid, was.0, has.gave, end.0, cells_reported c.args.year was.0 was.1 texts c.answers_are_read.ensures has.lines end.1)

pub returns-in-Ok-clause-answered : goal.returns-in-Ok-clause-answered
returns-in-Ok-clause-answered g c = cells_of_end _ _ c.args.year _ c.in-Ok.traffic c.in-Ok.field-0-1 c.in-Ok.ensures.served c.in-Ok.ensures.lost

pub returns-in-Err-clause-answered : goal.returns-in-Err-clause-answered
returns-in-Err-clause-answered g c = (
  ap (λ t. t.cells.grid) c.in-Err.ensures.untouched,
  replicate c.args.lanes [],
  subst (λ t. GaveCells g.S.Source.left g.S.Source.failed c.args.cells.images.source t.cells (replicate c.args.lanes [])) (sym c.in-Err.ensures.untouched) c.requires.fresh.0,
)

pub returns-in-Ok-default-Done-clause-same_reference : goal.returns-in-Ok-default-Done-clause-same_reference
returns-in-Ok-default-Done-clause-same_reference g c =
    let now = returns-in-Ok-default-Done-clause-answered g c in
    same_source _ _ c.args.cells.images.source c.in-Ok-default-Done.traffic.cells now.1 now.2

pub returns-in-Ok-clause-same_reference : goal.returns-in-Ok-clause-same_reference
returns-in-Ok-clause-same_reference g c =
    let now = returns-in-Ok-clause-answered g c in
    same_source _ _ c.args.cells.images.source c.in-Ok.traffic.cells now.1 now.2

pub returns-in-Err-clause-same_reference : goal.returns-in-Err-clause-same_reference
returns-in-Err-clause-same_reference g c =
    let now = returns-in-Err-clause-answered g c in
    same_source _ _ c.args.cells.images.source c.in-Err.field-0.input.cells now.1 now.2
