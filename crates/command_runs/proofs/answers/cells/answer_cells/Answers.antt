-- However the cells were served, what is told is true of the source that was lent.
use Rattle.std.proofs.Common.{◌≡◌, ◌∙◌, [], Err, ap, arith, inr, refl, replicate, rules, subst, sym}
use Rattle.std.proofs.KnownBytes.{Consumes-nil}
use Rattle.sheet_core.specs.Grids.{Cells}
use Rattle.sheet_core.specs.pbm.Rows.{HasSheets}
use Rattle.command_runs.specs.inner.CellRows.{GaveCells}
use Rattle.command_runs.specs.inner.ServedCells.{IsToldOfCells}
use Rattle.command_runs.proofs.FewEnough.{count_fits}
use Rattle.command_runs.proofs.answers.CellsServed.{at_start}
use Rattle.command_runs.proofs.answers.cells.answer_cells.Goals as goal

pub serve_cells-cells-requires-clause-counts : goal.serve_cells-cells-requires-clause-counts
serve_cells-cells-requires-clause-counts g c κs within =
    let o = c.args.options in
    let lanes : c.columns-lanes.result ≡ o.grid.columns = c.columns-lanes.ensures ∙ ap (λ (g : Cells). g.columns) c.requires in
    (rw lanes (count_fits o.grid.columns o.grid.numbers.3), count_fits o.workers o.some_workers)

pub serve_cells-cells-requires-clause-fresh : goal.serve_cells-cells-requires-clause-fresh
serve_cells-cells-requires-clause-fresh g c κs within =
    let r = c.new-cells.result in
    let lanes : c.columns-lanes.result ≡ r.grid.columns = c.columns-lanes.ensures ∙ ap (λ (g : Cells). g.columns) (sym c.new-cells.ensures.grid) in
    let i = c.new-images.result in
    let source = ap (λ i. i.source) c.new-cells.ensures.images in
    let sheets = subst (λ lent. HasSheets g.S.Source.left g.S.Source.failed lent i []) (sym c.new-images.ensures.source) c.new-images.ensures.sheets in
    let has = subst (λ j. HasSheets g.S.Source.left g.S.Source.failed i.source j []) (sym c.new-cells.ensures.images) sheets in (
      subst (λ lent. GaveCells g.S.Source.left g.S.Source.failed lent r (replicate c.columns-lanes.result [])) (sym source)
          (at_start g.S.Source.left g.S.Source.failed i.source r c.columns-lanes.result c.new-cells.ensures.course has lanes),
      c.in-Ok.ensures,
    )

-- what is told
told : (g : _) (c : goal.After-source-1 g)
    → IsToldOfCells c.args.options g.S.Source.left g.S.Source.failed c.args.source.now c.source-1.given.0 c.tell-told.result
told g c =
    let o = c.args.options in
    let r = c.new-cells.result in
    let from : r.images.source.now ≡ c.args.source.now = ap (λ i. i.source.now) c.new-cells.ensures.images ∙ ap (λ s. s.now) c.new-images.ensures.source in
    let (same, all) = c.tell-told.ensures.tells o r.images.source r.grid (sym c.requires ∙ sym c.new-cells.ensures.grid) c.serve_cells-cells.ensures.answered in
    let name = c.into_source-source.ensures.same_reference ∙ same ∙ ap (λ i. i.source.ghost_name) c.new-cells.ensures.images ∙ ap (λ s. s.ghost_name) c.new-images.ensures.source in
    let last : c.source-1.given.0 ≡ c.into_source-source.result.now = search (rules, name) in
    subst (λ s. IsToldOfCells o g.S.Source.left g.S.Source.failed s c.source-1.given.0 c.tell-told.result) from
    (subst (λ s. IsToldOfCells o g.S.Source.left g.S.Source.failed r.images.source.now s c.tell-told.result) (sym (last ∙ c.into_source-source.ensures.same)) all)

pub returns-clause-report : goal.returns-clause-report
returns-clause-report g c = (told g c).report

pub returns-clause-refused : goal.returns-clause-refused
returns-clause-refused g c = (told g c).why

pub returns-clause-other : goal.returns-clause-other
returns-clause-other g c = (told g c).other

pub returns-clause-fault : goal.returns-clause-fault
returns-clause-fault g c = (told g c).fault
