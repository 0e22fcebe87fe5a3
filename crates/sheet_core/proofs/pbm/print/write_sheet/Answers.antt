use Rattle.std.proofs.Common.{◌≡◌, ◌*◌, ◌++◌, ◌∙◌, [], ℕ, refl, take, drop, sym, ap, ap₂, subst, arith}
use Rattle.std.specs.Prelude.{OnErr}
use Rattle.std.specs.List.{AllZip}
use Rattle.std.proofs.lemmas.Bool.{false≢true}
use Rattle.std.proofs.KnownBytes.{Appends-nil, Appends-trans}
use Rattle.sheet_core.specs.Grids.{Cells, IsGrid}
use Rattle.sheet_core.specs.Labels.{FitsCell, IsDrawn}
use Rattle.sheet_core.specs.inner.Lines.{IsBand, row_labels}
use Rattle.sheet_core.proofs.BandFacts.{Banded, banded_none}
use Rattle.sheet_core.proofs.OneLabelSymbol.{AllZip-drop, AllZip-take}
use Rattle.sheet_core.proofs.WidthFacts.{AllByRecursion-drop, AllByRecursion-take}
use Rattle.sheet_core.proofs.pbm.FileFacts.{still}
use Rattle.sheet_core.proofs.pbm.ImageFacts.{err_is}
use Rattle.sheet_core.proofs.pbm.PrintFacts.{BandFront, SheetFront, band_more, head_of, sheet_band, sheet_head, sheet_out}
use Rattle.sheet_core.proofs.pbm.print.write_sheet.Goals as goal

pub returns-in_err-write_all-clause-err : goal.returns-in_err-write_all-clause-err
returns-in_err-write_all-clause-err g c = λ symbols h.
    let e = c.from_residual.ensures in
    let k : Cells = c.args.grid.now in
    let a = g.W.Sink.taken c.args.sink.now in
    let b = g.W.Sink.taken c.write_all.new.sink in
    let grid : IsGrid k = subst IsGrid c.grid.view_is c.grid.invariant in
    let head : c.as_slice.result.now ≡ head_of k = c.as_slice.ensures.value ∙ c.header.ensures ∙ ap head_of c.grid.view_is in
    subst (λ r. OnErr r (SheetFront k symbols a b)) (sym (err_is c.from_residual.result c.in_err-write_all.field-0.0 e.0 e.1))
    (sheet_head k symbols a b c.as_slice.result.now grid head c.in_err-write_all.ensures.err)

pub loop-row-init : goal.loop-row-init
loop-row-init g c = record {
  wrote = λ symbols h. ([], banded_none c.args.grid.now symbols [] refl, Appends-nil (g.W.Sink.taken c.write_all.new.sink));
  same = λ sound. still (g.W.Sink.failed c.write_all.new.sink) (λ e. false≢true ((c.in_ok-write_all.ensures.fault sound).1 e));
}

pub write_band-requires-clause-symbols : goal.write_band-requires-clause-symbols
write_band-requires-clause-symbols g c =
    let r = c.requires.symbols in
    let n : ℕ = c.from-columns.result in
    let k : ℕ = c.from.result * n in
    rw c.part-here.ensures (
      take n (drop k r.0),
      AllZip-take IsDrawn n (drop k c.args.labels.now) (drop k r.0) (AllZip-drop IsDrawn k c.args.labels.now r.0 r.1),
      AllByRecursion-take (FitsCell c.args.grid.now) n (drop k r.0) (AllByRecursion-drop (FitsCell c.args.grid.now) k r.0 r.2),
    )

pub loop-row-preserved : goal.loop-row-preserved
loop-row-preserved g c = record {
  wrote = λ symbols h.
      let k : Cells = c.args.grid.now in
      let n : ℕ = c.from-columns.result in
      let m : ℕ = c.from.result * n in
      let row : ℕ = c.loop-row.row in
      let here : AllZip IsDrawn c.part-here.result.now (take n (drop m symbols)) =
      rw c.part-here.ensures (AllZip-take IsDrawn n (drop m c.args.labels.now) (drop m symbols) (AllZip-drop IsDrawn m c.args.labels.now symbols h)) in
      let columns : n ≡ k.columns = c.from-columns.ensures ∙ ap (λ (g : Cells). g.columns) c.grid.view_is in
      let first : m ≡ row * k.columns = ap₂ (λ a b. a * b) c.from.ensures columns in
      let part : take n (drop m symbols) ≡ row_labels k symbols row = ap₂ (λ n m. take n (drop m symbols)) columns first in
      let before = c.loop-row.invariant.wrote symbols h in
      let more = c.in_ok-write_band.ensures.ok (take n (drop m symbols)) here in (
        before.0 ++ more.0,
        band_more k symbols row before.0 more.0 before.1 (subst (λ ss. IsBand k ss more.0) part more.1),
        Appends-trans (g.W.Sink.taken c.write_all.new.sink) (g.W.Sink.taken c.loop-row.sink) (g.W.Sink.taken c.write_band.new.sink) before.0 more.0 before.2
            more.2,
      );
  same = λ sound. still (g.W.Sink.failed c.write_band.new.sink) (λ e. false≢true ((c.in_ok-write_band.ensures.fault (c.loop-row.invariant.same sound)).1 e));
}

pub returns-in_err-write_band-clause-err : goal.returns-in_err-write_band-clause-err
returns-in_err-write_band-clause-err g c = λ symbols h.
    let e = c.from_residual-in_err-write_band.ensures in
    let k : Cells = c.args.grid.now in
    let n : ℕ = c.from-columns.result in
    let m : ℕ = c.from.result * n in
    let row : ℕ = c.loop-row.row in
    let a = g.W.Sink.taken c.args.sink.now in
    let b = g.W.Sink.taken c.write_all.new.sink in
    let d = g.W.Sink.taken c.loop-row.sink in
    let f = g.W.Sink.taken c.write_band.new.sink in
    let here : AllZip IsDrawn c.part-here.result.now (take n (drop m symbols)) =
    rw c.part-here.ensures (AllZip-take IsDrawn n (drop m c.args.labels.now) (drop m symbols) (AllZip-drop IsDrawn m c.args.labels.now symbols h)) in
    let columns : n ≡ k.columns = c.from-columns.ensures ∙ ap (λ (g : Cells). g.columns) c.grid.view_is in
    let first : m ≡ row * k.columns = ap₂ (λ a b. a * b) c.from.ensures columns in
    let part : take n (drop m symbols) ≡ row_labels k symbols row = ap₂ (λ n m. take n (drop m symbols)) columns first in
    let before = c.loop-row.invariant.wrote symbols h in
    let grid : IsGrid k = subst IsGrid c.grid.view_is c.grid.invariant in
    let head : c.as_slice.result.now ≡ head_of k = c.as_slice.ensures.value ∙ c.header.ensures ∙ ap head_of c.grid.view_is in
    let rows : c.grid.inside.rows ≡ k.rows = ap (λ (g : Cells). g.rows) c.grid.view_is in
    subst (λ r. OnErr r (SheetFront k symbols a f)) (sym (err_is c.from_residual-in_err-write_band.result c.in_err-write_band.field-0.0 e.0 e.1))
    (sheet_band k symbols row a b d f c.as_slice.result.now before.0 grid (omega arith) head c.in_ok-write_all.ensures.ok before.1 before.2
    (subst (λ ss. BandFront k ss d f) part (c.in_err-write_band.ensures.err (take n (drop m symbols)) here)))

pub returns-clause-ok : goal.returns-clause-ok
returns-clause-ok g c = λ symbols h.
    let k : Cells = c.args.grid.now in
    let before = c.loop-row.invariant.wrote symbols h in
    let grid : IsGrid k = subst IsGrid c.grid.view_is c.grid.invariant in
    let head : c.as_slice.result.now ≡ head_of k = c.as_slice.ensures.value ∙ c.header.ensures ∙ ap head_of c.grid.view_is in
    let rows : c.grid.inside.rows ≡ k.rows = ap (λ (g : Cells). g.rows) c.grid.view_is in
    let end : c.loop-row.row ≡ k.rows = omega arith in
    sheet_out k symbols (g.W.Sink.taken c.args.sink.now) (g.W.Sink.taken c.write_all.new.sink) (g.W.Sink.taken c.loop-row.sink) c.as_slice.result.now before.0
    grid head c.in_ok-write_all.ensures.ok
    (subst (λ n. Banded k symbols n before.0) end before.1) before.2
