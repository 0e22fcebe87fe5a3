use Rattle.std.proofs.Common.{◌≡◌, ◌*◌, ℕ, take, drop, sym, ap, ap₂, subst, ◌∙◌, arith}
use Rattle.std.specs.List.{AllZip}
use Rattle.sheet_core.specs.Drawing.{IsSheet}
use Rattle.sheet_core.specs.Grids.{Cells}
use Rattle.sheet_core.specs.Labels.{FitsCell, IsDrawn}
use Rattle.sheet_core.specs.inner.Lines.{IsBarLine, row_labels}
use Rattle.sheet_core.proofs.BandFacts.{Banded, banded_more}
use Rattle.sheet_core.proofs.OneLabelSymbol.{AllZip-drop, AllZip-take}
use Rattle.sheet_core.proofs.WidthFacts.{AllByRecursion-drop, AllByRecursion-take}
use Rattle.sheet_core.proofs.SheetFacts.{bitmap_of_bands, sheet_of}
use Rattle.sheet_core.proofs.print.print_sheet.Goals as goal

pub push_band-requires-clause-symbols : goal.push_band-requires-clause-symbols
push_band-requires-clause-symbols c =
    let r = c.requires.symbols in
    let n : ℕ = c.from-columns.result in
    let k : ℕ = c.from-in-loop-row.result * n in
    rw c.part-here.ensures (
      take n (drop k r.0),
      AllZip-take IsDrawn n (drop k c.args.labels.now) (drop k r.0) (AllZip-drop IsDrawn k c.args.labels.now r.0 r.1),
      AllByRecursion-take (FitsCell c.args.grid.now) n (drop k r.0) (AllByRecursion-drop (FitsCell c.args.grid.now) k r.0 r.2),
    )

pub loop-row-preserved : goal.loop-row-preserved
loop-row-preserved c = λ symbols h.
    let g : Cells = c.args.grid.now in
    let n : ℕ = c.from-columns.result in
    let k : ℕ = c.from-in-loop-row.result * n in
    let row : ℕ = c.loop-row.row in
    let here : AllZip IsDrawn c.part-here.result.now (take n (drop k symbols)) =
    rw c.part-here.ensures (AllZip-take IsDrawn n (drop k c.args.labels.now) (drop k symbols) (AllZip-drop IsDrawn k c.args.labels.now symbols h)) in
    let columns : n ≡ g.columns = c.from-columns.ensures ∙ ap (λ (g : Cells). g.columns) c.grid.view_is in
    let first : k ≡ row * g.columns = ap₂ (λ a b. a * b) c.from-in-loop-row.ensures columns in
    let part : take n (drop k symbols) ≡ row_labels g symbols row = ap₂ (λ n k. take n (drop k symbols)) columns first in
    let drawn = c.in_ok-push_band.ensures (take n (drop k symbols)) here in
    banded_more g symbols row c.loop-row.bytes.items c.push_band.new.bytes.items drawn.0 (c.loop-row.invariant symbols h)
    (subst (λ ss. IsBarLine g ss drawn.0) part drawn.1) drawn.2

pub invariant_of-result : goal.invariant_of-result
invariant_of-result c =
    let i = c.grid.inside in
    let g : Cells = record { dots = i.module_dots; width = i.cell_width; height = i.cell_height; columns = i.columns; rows = i.rows } in
    let r = c.requires.symbols in
    let end : c.loop-row.row ≡ i.rows = omega arith in
    let all : Banded g r.0 g.rows c.loop-row.bytes.items =
    subst (λ n. Banded g r.0 n c.loop-row.bytes.items) end (subst (λ (g : Cells). Banded g r.0 c.loop-row.row c.loop-row.bytes.items) (sym c.grid.view_is)
    (c.loop-row.invariant r.0 r.1)) in
    bitmap_of_bands g r.0 c.loop-row.bytes.items c.grid.invariant all

pub returns : goal.returns
returns c = λ symbols h.
    let i = c.grid.inside in
    let g : Cells = record { dots = i.module_dots; width = i.cell_width; height = i.cell_height; columns = i.columns; rows = i.rows } in
    let end : c.loop-row.row ≡ i.rows = omega arith in
    let all : Banded g symbols g.rows c.loop-row.bytes.items =
    subst (λ n. Banded g symbols n c.loop-row.bytes.items) end
    (subst (λ (g : Cells). Banded g symbols c.loop-row.row c.loop-row.bytes.items) (sym c.grid.view_is) (c.loop-row.invariant symbols h)) in
    subst (λ (k : Cells). IsSheet symbols k 0 (record { width = g.columns * g.width; height = g.rows * g.height; bytes = c.loop-row.bytes.items }))
    c.grid.view_is (sheet_of g symbols c.loop-row.bytes.items c.grid.invariant all)
