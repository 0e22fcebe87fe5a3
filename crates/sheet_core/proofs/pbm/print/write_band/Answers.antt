use Rattle.std.proofs.Common.{◌≤◌, ◌∙◌, ℕ, List, replicate, sym, ap, subst}
use Rattle.std.specs.Prelude.{OnErr}
use Rattle.std.specs.Io.KnownBytes.{Appends}
use Rattle.std.proofs.lemmas.Slice.Zip.{AllZip-long}
use Rattle.sheet_core.specs.Grids.{Cells, IsGrid}
use Rattle.sheet_core.specs.Labels.{IsDrawn}
use Rattle.sheet_core.specs.inner.Lines.{IsBand, repeated_bytes}
use Rattle.digits_core.specs.Bytes.{TookFront}
use Rattle.sheet_core.proofs.pbm.FileFacts.{on_err}
use Rattle.sheet_core.proofs.pbm.ImageFacts.{err_is}
use Rattle.sheet_core.proofs.pbm.PrintFacts.{BandFront, band_above, band_bars, band_below, band_out, bar_rows, on_ok}
use Rattle.sheet_core.proofs.pbm.print.write_band.Goals as goal

pub draw_line-requires-clause-light : goal.draw_line-requires-clause-light
draw_line-requires-clause-light g c = c.fill.ensures.after (λ y same. same) ∙ ap (λ n. replicate {A = ℕ} n 0) c.requires.long

pub returns-in_err-write_rows-clause-err : goal.returns-in_err-write_rows-clause-err
returns-in_err-write_rows-clause-err g c = λ symbols h.
    let e = c.from_residual.ensures in
    let k : Cells = c.args.grid.now in
    let a = g.W.Sink.taken c.args.sink.now in
    let b = g.W.Sink.taken c.write_rows.new.sink in
    let grid : IsGrid k = subst IsGrid c.grid.view_is c.grid.invariant in
    let few = subst (λ n. n ≤ k.columns) (sym (AllZip-long IsDrawn c.args.labels.now symbols h)) c.requires.few in
    let light = c.fill.ensures.after (λ y same. same) ∙ ap (λ n. replicate {A = ℕ} n 0) c.requires.long in
    subst (λ r. OnErr r (BandFront k symbols a b)) (sym (err_is c.from_residual.result c.in_err-write_rows.field-0.0 e.0 e.1))
    (band_above k symbols a b c.fill.new.self _ grid few light (ap (λ (g : Cells). g.dots) c.grid.view_is) c.in_err-write_rows.ensures.err)

pub returns-in_err-write_rows-2-clause-err : goal.returns-in_err-write_rows-2-clause-err
returns-in_err-write_rows-2-clause-err g c = λ symbols h.
    let e = c.from_residual-in_err-write_rows-2.ensures in
    let k : Cells = c.args.grid.now in
    let a = g.W.Sink.taken c.args.sink.now in
    let b = g.W.Sink.taken c.write_rows.new.sink in
    let d = g.W.Sink.taken c.write_rows-2.new.sink in
    let light = c.fill.ensures.after (λ y same. same) ∙ ap (λ n. replicate {A = ℕ} n 0) c.requires.long in
    subst (λ r. OnErr r (BandFront k symbols a d)) (sym (err_is c.from_residual-in_err-write_rows-2.result c.in_err-write_rows-2.field-0.0 e.0 e.1))
    (band_bars k symbols a b d c.fill.new.self c.draw_line.new.line _ _ (c.draw_line.ensures symbols h) light (ap (λ (g : Cells). g.dots) c.grid.view_is)
    (ap bar_rows c.grid.view_is)
    c.in_ok-write_rows.ensures.ok c.in_err-write_rows-2.ensures.err)

pub returns-clause-ok : goal.returns-clause-ok
returns-clause-ok g c = λ symbols h.
    let k : Cells = c.args.grid.now in
    let a = g.W.Sink.taken c.args.sink.now in
    let b = g.W.Sink.taken c.write_rows.new.sink in
    let d = g.W.Sink.taken c.write_rows-2.new.sink in
    let e = g.W.Sink.taken c.write_rows-3.new.sink in
    let line = c.draw_line.ensures symbols h in
    let light = c.fill.ensures.after (λ y same. same) ∙ ap (λ n. replicate {A = ℕ} n 0) c.requires.long in
    let dark = c.fill-2.ensures.after (λ y same. same) ∙ ap (λ n. replicate {A = ℕ} n 0) line.long in
    on_ok c.write_rows-3.result (Appends d e (repeated_bytes c.grid.inside.module_dots c.fill-2.new.self))
    ((bytes : List ℕ) × IsBand k symbols bytes × Appends a e bytes)
    (λ last. band_out k symbols a b d e c.fill.new.self c.draw_line.new.line c.fill-2.new.self _ _ line light dark (ap (λ (g : Cells). g.dots) c.grid.view_is)
    (ap bar_rows c.grid.view_is)
    c.in_ok-write_rows.ensures.ok c.in_ok-write_rows-2.ensures.ok last)
    c.write_rows-3.ensures.ok

pub returns-clause-err : goal.returns-clause-err
returns-clause-err g c = λ symbols h.
    let k : Cells = c.args.grid.now in
    let a = g.W.Sink.taken c.args.sink.now in
    let b = g.W.Sink.taken c.write_rows.new.sink in
    let d = g.W.Sink.taken c.write_rows-2.new.sink in
    let e = g.W.Sink.taken c.write_rows-3.new.sink in
    let line = c.draw_line.ensures symbols h in
    let light = c.fill.ensures.after (λ y same. same) ∙ ap (λ n. replicate {A = ℕ} n 0) c.requires.long in
    let dark = c.fill-2.ensures.after (λ y same. same) ∙ ap (λ n. replicate {A = ℕ} n 0) line.long in
    on_err c.write_rows-3.result (TookFront d e (repeated_bytes c.grid.inside.module_dots c.fill-2.new.self)) (BandFront k symbols a e)
    (λ front. band_below k symbols a b d e c.fill.new.self c.draw_line.new.line c.fill-2.new.self _ _ line light dark
    (ap (λ (g : Cells). g.dots) c.grid.view_is) (ap bar_rows c.grid.view_is)
    c.in_ok-write_rows.ensures.ok c.in_ok-write_rows-2.ensures.ok front)
    c.write_rows-3.ensures.err
