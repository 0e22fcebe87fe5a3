use Rattle.std.proofs.Common.{◌≡◌, ℕ, ◌+◌, ◌*◌, length, ap, subst, ◌∙◌, arith}
use Rattle.std.proofs.lemmas.List.{length-replicate}
use Rattle.std.proofs.lemmas.Slice.Zip.{AllZip-long}
use Rattle.scan_core.specs.Bits.{dot_at}
use Rattle.sheet_core.specs.Bitmaps.{stride}
use Rattle.sheet_core.specs.Grids.{IsGrid}
use Rattle.sheet_core.specs.Labels.{IsDrawn}
use Rattle.sheet_core.proofs.CellLineFacts.{Lined, added_by, all_lined, light_dots, light_line, next, place, turn}
use Rattle.sheet_core.proofs.OneLabelSymbol.{drawn_at}
use Rattle.sheet_core.proofs.line.draw_line.Goals as goal

pub loop-label-init : goal.loop-label-init
loop-label-init c = record {
  at_is = omega arith;
  lined = λ symbols h. light_line c.args.grid.now symbols c.args.line.now
      (λ x. ap (λ line. dot_at line x) c.requires.light ∙ light_dots (stride (c.args.grid.now.columns * c.args.grid.now.width)) x);
}

pub drawn-symbol-requires : goal.drawn-symbol-requires
drawn-symbol-requires c =
    let r = c.requires.symbols in
    let d = drawn_at c.args.labels.now r.0 c.loop-label.label-index c.label-item.result r.1 c.loop-label-test.true c.label-item.is in
    (d.s, d.drawn)

pub draw-requires-clause-within : goal.draw-requires-clause-within
draw-requires-clause-within c =
    let grid : IsGrid c.args.grid.now = subst IsGrid c.grid.view_is c.grid.invariant in
    let r = c.requires.symbols in
    let t = turn c.args.grid.now c.args.labels.now r.0 r.0 c.loop-label.label-index c.label-item.result c.drawn-symbol.result r.1 r.2 r.1 c.loop-label-test.true
    c.label-item.is c.drawn-symbol.ensures in
    let view = c.grid.view_is in
    let one = c.symbol.view_is in
    let room : length c.args.line.now ≡ stride (c.args.grid.now.columns * c.args.grid.now.width) =
    ap length c.requires.light ∙ length-replicate {A = ℕ} (stride (c.args.grid.now.columns * c.args.grid.now.width)) 0 in
    let p = place c.args.grid.now c.drawn-symbol.result c.loop-label.label-index (length c.args.labels.now) c.loop-label.at c.from-width.result c.from.result
    c.from-dots.result (length c.args.line.now) c.widths.result.now grid t.fits
    c.loop-label-test.true c.requires.few c.loop-label.invariant.at_is (c.from-width.ensures ∙ ap (λ g. g.width) view)
    (c.from.ensures ∙ ap (λ s. s.quiet_left) one) (c.from-dots.ensures ∙ ap (λ g. g.dots) view)
    (c.widths.ensures.value ∙ ap (λ s. s.modules) one) room in
    omega (arith, p.0)

pub draw-requires-clause-few : goal.draw-requires-clause-few
draw-requires-clause-few c =
    let grid : IsGrid c.args.grid.now = subst IsGrid c.grid.view_is c.grid.invariant in
    let r = c.requires.symbols in
    let t = turn c.args.grid.now c.args.labels.now r.0 r.0 c.loop-label.label-index c.label-item.result c.drawn-symbol.result r.1 r.2 r.1 c.loop-label-test.true
    c.label-item.is c.drawn-symbol.ensures in
    let view = c.grid.view_is in
    let one = c.symbol.view_is in
    let room : length c.args.line.now ≡ stride (c.args.grid.now.columns * c.args.grid.now.width) =
    ap length c.requires.light ∙ length-replicate {A = ℕ} (stride (c.args.grid.now.columns * c.args.grid.now.width)) 0 in
    let p = place c.args.grid.now c.drawn-symbol.result c.loop-label.label-index (length c.args.labels.now) c.loop-label.at c.from-width.result c.from.result
    c.from-dots.result (length c.args.line.now) c.widths.result.now grid t.fits
    c.loop-label-test.true c.requires.few c.loop-label.invariant.at_is (c.from-width.ensures ∙ ap (λ g. g.width) view)
    (c.from.ensures ∙ ap (λ s. s.quiet_left) one) (c.from-dots.ensures ∙ ap (λ g. g.dots) view)
    (c.widths.ensures.value ∙ ap (λ s. s.modules) one) room in
    omega (arith, p.1)

pub loop-label-preserved : goal.loop-label-preserved
loop-label-preserved c =
    let grid : IsGrid c.args.grid.now = subst IsGrid c.grid.view_is c.grid.invariant in
    let r = c.requires.symbols in
    let t = turn c.args.grid.now c.args.labels.now r.0 r.0 c.loop-label.label-index c.label-item.result c.drawn-symbol.result r.1 r.2 r.1 c.loop-label-test.true
    c.label-item.is c.drawn-symbol.ensures in
    let view = c.grid.view_is in
    let one = c.symbol.view_is in
    let room : length c.args.line.now ≡ stride (c.args.grid.now.columns * c.args.grid.now.width) =
    ap length c.requires.light ∙ length-replicate {A = ℕ} (stride (c.args.grid.now.columns * c.args.grid.now.width)) 0 in
    let p = place c.args.grid.now c.drawn-symbol.result c.loop-label.label-index (length c.args.labels.now) c.loop-label.at c.from-width.result c.from.result
    c.from-dots.result (length c.args.line.now) c.widths.result.now grid t.fits
    c.loop-label-test.true c.requires.few c.loop-label.invariant.at_is (c.from-width.ensures ∙ ap (λ g. g.width) view)
    (c.from.ensures ∙ ap (λ s. s.quiet_left) one) (c.from-dots.ensures ∙ ap (λ g. g.dots) view)
    (c.widths.ensures.value ∙ ap (λ s. s.modules) one) room in
    let ke = c.from-dots.ensures ∙ ap (λ g. g.dots) view in
    let we = c.widths.ensures.value ∙ ap (λ s. s.modules) one in
    let i = c.loop-label.label-index in
    record {
      at_is = (let a = c.loop-label.invariant.at_is in let e : (i + 1) * c.from-width.result ≡ i * c.from-width.result + c.from-width.result =
          grind arith in omega arith);
      lined = λ others h.
          let u = turn c.args.grid.now c.args.labels.now r.0 others i c.label-item.result c.drawn-symbol.result r.1 r.2 h c.loop-label-test.true c.label-item.is
          c.drawn-symbol.ensures in
          next c.args.grid.now others i c.drawn-symbol.result c.loop-label.line c.draw.new.line (let d = grid.dots_least in omega arith)
          (let d = grid.width_least in omega arith) u.fits u.here (c.loop-label.invariant.lined others h)
          (added_by c.args.grid.now c.drawn-symbol.result i _ _ _ c.loop-label.line c.draw.new.line p.3 ke we c.draw.ensures);
    }

pub returns : goal.returns
returns c = λ symbols h.
    let grid : IsGrid c.args.grid.now = subst IsGrid c.grid.view_is c.grid.invariant in
    let long = AllZip-long IsDrawn c.args.labels.now symbols h in
    let end : c.loop-label.label-index ≡ length symbols = omega arith in
    let room : length c.args.line.now ≡ stride (c.args.grid.now.columns * c.args.grid.now.width) =
    ap length c.requires.light ∙ length-replicate {A = ℕ} (stride (c.args.grid.now.columns * c.args.grid.now.width)) 0 in
    record {
      long = (let same = c.loop-label.auto.line in omega arith);
      dots = all_lined c.args.grid.now symbols c.loop-label.line (let w = grid.width_least in omega arith)
          (subst (λ i. Lined c.args.grid.now symbols i c.loop-label.line) end (c.loop-label.invariant.lined symbols h));
    }
