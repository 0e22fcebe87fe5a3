use Rattle.std.proofs.Common.{◌≡◌, ◌+◌, ◌-◌, ◌*◌, ◌/◌, ◌++◌, ◌∷◌, [], ◌∙◌, ℕ, length, refl, take, drop, sym, ap, ap₂, subst, arith}
use Rattle.std.specs.Prelude.{OnErr}
use Rattle.std.specs.List.{AllZip}
use Rattle.std.proofs.lemmas.Bool.{false≢true}
use Rattle.std.proofs.KnownBytes.{Appends-nil}
use Rattle.std.proofs.lemmas.Slice.Zip.{AllZip-long}
use Rattle.sheet_core.specs.Drawing.{IsSheet, cell_count, sheet_count}
use Rattle.sheet_core.specs.Grids.{Cells, IsGrid}
use Rattle.sheet_core.specs.Labels.{FitsCell, IsDrawn}
use Rattle.sheet_core.proofs.OneLabelSymbol.{AllZip-drop, AllZip-take}
use Rattle.sheet_core.proofs.WidthFacts.{AllByRecursion-drop, AllByRecursion-take}
use Rattle.sheet_core.proofs.pbm.FileFacts.{still}
use Rattle.sheet_core.proofs.pbm.ImageFacts.{err_is}
use Rattle.sheet_core.proofs.pbm.PrintFacts.{SheetFront, SheetsFront, no_sheets, sheet_labels, sheeted_none, sheets_cut, sheets_more, sheets_out}
use Rattle.sheet_core.proofs.pbm.print.write_sheets.Goals as goal

pub loop-i-init : goal.loop-i-init
loop-i-init g c = record {
  wrote = λ symbols h. ([], sheeted_none c.args.grid.now symbols, Appends-nil (g.W.Sink.taken c.args.sink.now));
  none = λ _. refl;
  same = λ sound. sound;
}

pub write_sheet-requires-clause-symbols : goal.write_sheet-requires-clause-symbols
write_sheet-requires-clause-symbols g c =
    let r = c.requires.symbols in
    let n : ℕ = c.from.result * c.from-2.result in
    let k : ℕ = c.loop-i.i * n in
    rw c.part-here.ensures (
      take n (drop k r.0),
      AllZip-take IsDrawn n (drop k c.args.labels.now) (drop k r.0) (AllZip-drop IsDrawn k c.args.labels.now r.0 r.1),
      AllByRecursion-take (FitsCell c.args.grid.now) n (drop k r.0) (AllByRecursion-drop (FitsCell c.args.grid.now) k r.0 r.2),
    )

pub loop-i-preserved : goal.loop-i-preserved
loop-i-preserved g c = record {
  wrote = λ symbols h.
      let k : Cells = c.args.grid.now in
      let n : ℕ = c.from.result * c.from-2.result in
      let m : ℕ = c.loop-i.i * n in
      let grid : IsGrid k = subst IsGrid c.grid.view_is c.grid.invariant in
      let cells : n ≡ cell_count k = ap₂ (λ a b. a * b) (c.from.ensures ∙ ap (λ (g : Cells). g.columns) c.grid.view_is)
      (c.from-2.ensures ∙ ap (λ (g : Cells). g.rows) c.grid.view_is) in
      let here : AllZip IsDrawn c.part-here.result.now (take n (drop m symbols)) =
      rw c.part-here.ensures (AllZip-take IsDrawn n (drop m c.args.labels.now) (drop m symbols) (AllZip-drop IsDrawn m c.args.labels.now symbols h)) in
      let part : take n (drop m symbols) ≡ sheet_labels k symbols c.loop-i.i = ap (λ n. take n (drop (c.loop-i.i * n) symbols)) cells in
      let before = c.loop-i.invariant.wrote symbols h in
      let more = c.in_ok-write_sheet.ensures.ok (take n (drop m symbols)) here in
      let all = sheets_more k symbols c.loop-i.i (g.W.Sink.taken c.args.sink.now) (g.W.Sink.taken c.loop-i.sink) (g.W.Sink.taken c.write_sheet.new.sink)
      before.0 more.0 grid before.1
      (subst (λ ss. IsSheet ss k 0 more.0) part more.1) before.2 more.2 in
      (before.0 ++ more.0 ∷ [], all.0, all.1);
  none = λ e. absurd (omega arith);
  same = λ sound. still (g.W.Sink.failed c.write_sheet.new.sink) (λ e. false≢true ((c.in_ok-write_sheet.ensures.fault (c.loop-i.invariant.same sound)).1 e));
}

pub returns-in_err-write_sheet-clause-err : goal.returns-in_err-write_sheet-clause-err
returns-in_err-write_sheet-clause-err g c = λ symbols h.
    let e = c.from_residual.ensures in
    let k : Cells = c.args.grid.now in
    let n : ℕ = c.from.result * c.from-2.result in
    let m : ℕ = c.loop-i.i * n in
    let a = g.W.Sink.taken c.args.sink.now in
    let b = g.W.Sink.taken c.loop-i.sink in
    let d = g.W.Sink.taken c.write_sheet.new.sink in
    let grid : IsGrid k = subst IsGrid c.grid.view_is c.grid.invariant in
    let cells : n ≡ cell_count k = ap₂ (λ a b. a * b) (c.from.ensures ∙ ap (λ (g : Cells). g.columns) c.grid.view_is)
    (c.from-2.ensures ∙ ap (λ (g : Cells). g.rows) c.grid.view_is) in
    let here : AllZip IsDrawn c.part-here.result.now (take n (drop m symbols)) =
    rw c.part-here.ensures (AllZip-take IsDrawn n (drop m c.args.labels.now) (drop m symbols) (AllZip-drop IsDrawn m c.args.labels.now symbols h)) in
    let part : take n (drop m symbols) ≡ sheet_labels k symbols c.loop-i.i = ap (λ n. take n (drop (c.loop-i.i * n) symbols)) cells in
    let before = c.loop-i.invariant.wrote symbols h in
    let count : (length c.args.labels.now + (n - 1)) / n ≡ sheet_count k (length symbols) =
    ap₂ (λ l n. (l + (n - 1)) / n) (sym (AllZip-long IsDrawn c.args.labels.now symbols h)) cells in
    subst (λ r. OnErr r (SheetsFront k symbols a d)) (sym (err_is c.from_residual.result c.in_err-write_sheet.field-0.0 e.0 e.1))
    (sheets_cut k symbols c.loop-i.i ((length c.args.labels.now + (n - 1)) / n) a b d before.0 grid (omega arith) count before.1 before.2
    (subst (λ ss. SheetFront k ss b d) part (c.in_err-write_sheet.ensures.err (take n (drop m symbols)) here)))

pub returns-in_err-write_sheet-clause-none : goal.returns-in_err-write_sheet-clause-none
returns-in_err-write_sheet-clause-none g c = λ empty.
    let k : Cells = c.args.grid.now in
    let n : ℕ = c.from.result * c.from-2.result in
    let grid : IsGrid k = subst IsGrid c.grid.view_is c.grid.invariant in
    let cells : n ≡ cell_count k = ap₂ (λ a b. a * b) (c.from.ensures ∙ ap (λ (g : Cells). g.columns) c.grid.view_is)
    (c.from-2.ensures ∙ ap (λ (g : Cells). g.rows) c.grid.view_is) in
    let zero : (length c.args.labels.now + (n - 1)) / n ≡ 0 = ap₂ (λ l n. (l + (n - 1)) / n) (ap length empty) cells ∙ no_sheets k grid in
    absurd (omega arith)

pub returns-clause-ok : goal.returns-clause-ok
returns-clause-ok g c = λ symbols h.
    let k : Cells = c.args.grid.now in
    let n : ℕ = c.from.result * c.from-2.result in
    let cells : n ≡ cell_count k = ap₂ (λ a b. a * b) (c.from.ensures ∙ ap (λ (g : Cells). g.columns) c.grid.view_is)
    (c.from-2.ensures ∙ ap (λ (g : Cells). g.rows) c.grid.view_is) in
    let before = c.loop-i.invariant.wrote symbols h in
    let end : c.loop-i.i ≡ (length c.args.labels.now + (n - 1)) / n = omega arith in
    let count : c.loop-i.i ≡ sheet_count k (length symbols) =
    end ∙ ap₂ (λ l n. (l + (n - 1)) / n) (sym (AllZip-long IsDrawn c.args.labels.now symbols h)) cells in
    sheets_out k symbols c.loop-i.i (g.W.Sink.taken c.args.sink.now) (g.W.Sink.taken c.loop-i.sink) before.0 count before.1 before.2

pub returns-clause-none : goal.returns-clause-none
returns-clause-none g c = λ empty.
    let k : Cells = c.args.grid.now in
    let n : ℕ = c.from.result * c.from-2.result in
    let grid : IsGrid k = subst IsGrid c.grid.view_is c.grid.invariant in
    let cells : n ≡ cell_count k = ap₂ (λ a b. a * b) (c.from.ensures ∙ ap (λ (g : Cells). g.columns) c.grid.view_is)
    (c.from-2.ensures ∙ ap (λ (g : Cells). g.rows) c.grid.view_is) in
    let zero : (length c.args.labels.now + (n - 1)) / n ≡ 0 = ap₂ (λ l n. (l + (n - 1)) / n) (ap length empty) cells ∙ no_sheets k grid in
    c.loop-i.invariant.none (omega arith)
