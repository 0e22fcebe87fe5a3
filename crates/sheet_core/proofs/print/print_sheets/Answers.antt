use Rattle.std.proofs.Common.{rules, true, ◌≡◌, ◌≢◌, ◌+◌, ◌-◌, ◌*◌, ◌/◌, ◌++◌, ◌∷◌, [], ◌≤◌, ℕ, List, Fits}
use Rattle.std.proofs.Common.{w64, mul-le-mul, length, length-take, take, drop, sym, ap, ap₂, subst, ◌∙◌, refl, inl, inr, arith, length-append}
use Rattle.std.specs.Prelude.{Some, slice_get}
use Rattle.std.specs.Prelude.{Result, Ok, Err, IfErr, IsErrOf}
use Rattle.std.specs.Result.{IsErrAnd, is_ok}
use Rattle.std.specs.List.{AllByRecursion, AllZip}
use Rattle.std.proofs.lemmas.Slice.Zip.{AllZip-long}
use Rattle.sheet_core.specs.declared.fault.SheetFault.{SheetFault}
use Rattle.sheet_core.specs.declared.fault.SheetFault.TheVariants.{NoMemory}
use Rattle.sheet_core.specs.declared.label.Label.{Label}
use Rattle.sheet_core.specs.Drawing.{IsSheet, IsSheetFault, cell_count}
use Rattle.sheet_core.specs.Grids.{Cells, IsGrid}
use Rattle.sheet_core.specs.Labels.{FitsCell, IsDrawn, IsPrintable}
use Rattle.sheet_core.proofs.OneLabelSymbol.{AllZip-drop, AllZip-take, all_printed, last_or_before}
use Rattle.sheet_core.proofs.WidthFacts.{AllByRecursion-drop, AllByRecursion-take}
use Rattle.sheet_core.proofs.SheetFacts.{sheet_at}
use Rattle.sheet_core.proofs.print.print_sheets.Goals as goal

-- an error of a result that is in a fault is that fault, which is no refusal of memory
only_that : {A : Type 0} (g : Cells) (labels : List Label) (r : Result A SheetFault) (f : SheetFault) → IsErrAnd r (λ x. x ≡ f) → IsSheetFault g labels f
    → IfErr r (IsSheetFault g labels)
only_that g labels (Ok a) f h fault = tt
only_that g labels (Err x) f h fault = subst (IsSheetFault g labels) (sym h) fault

refused : {A : Type 0} (g : Cells) (labels : List Label) (r : Result A SheetFault) → IfErr r (IsSheetFault g labels)
    → IfErr r (λ x. x ≢ NoMemory → IsSheetFault g labels x)
refused g labels (Ok a) h = tt
refused g labels (Err x) h = λ no. h

late : {A : Type 0} (g : Cells) (labels : List Label) (r : Result A SheetFault) → IfErr r (IsSheetFault g labels)
    → IsErrOf r NoMemory → AllByRecursion (IsPrintable g) labels
late g labels (Ok a) h e = absurd (cc)
late g labels (Err x) h e =
    let same : x ≡ NoMemory = cc in
    absurd (subst (IsSheetFault g labels) same h)

small : (a b c d : ℕ) → a ≡ c → b ≡ d → c ≤ 16 → d ≤ 64 → Fits w64 (a * b)
small a b c d p q h k =
    let most : c * d ≤ 16 * 64 = mul-le-mul h k in
    rw (p, q) (omega (arith, most))

few_taken : {X : Type 0} (n m : ℕ) (xs ys : List X) → n ≡ m → ys ≡ take n xs → length ys ≤ m
few_taken n m xs ys e t = rw (t, length-take) (omega (arith, e))

pub print_sheet-requires-clause-symbols : goal.print_sheet-requires-clause-symbols
print_sheet-requires-clause-symbols c =
    let p = all_printed c.args.grid c.args.labels.now c.in_ok-check_labels.ensures.ok in
    let n : ℕ = c.from.result * c.from-2.result in
    let k : ℕ = c.loop-i.i * n in
    rw c.part-here.ensures (
      take n (drop k p.symbols),
      AllZip-take IsDrawn n (drop k c.args.labels.now) (drop k p.symbols) (AllZip-drop IsDrawn k c.args.labels.now p.symbols p.drawn),
      AllByRecursion-take (FitsCell c.args.grid) n (drop k p.symbols) (AllByRecursion-drop (FitsCell c.args.grid) k p.symbols p.fit),
    )

pub loop-i-preserved : goal.loop-i-preserved
loop-i-preserved c =
    let g : Cells = c.args.grid in
    let n : ℕ = c.from.result * c.from-2.result in
    let k : ℕ = c.loop-i.i * n in
    let pushed : is_ok c.push.result ≡ true = search rules in
    let items = rw pushed at c.push.ensures.items in
    let count = c.loop-i.invariant.count in
    let grid : IsGrid g = subst IsGrid c.grid.view_is c.grid.invariant in
    let cells : n ≡ cell_count g = ap₂ (λ a b. a * b) (c.from.ensures ∙ ap (λ (g : Cells). g.columns) c.grid.view_is)
    (c.from-2.ensures ∙ ap (λ (g : Cells). g.rows) c.grid.view_is) in
    record {
      count = ap length items ∙ length-append c.loop-i.sheets.items (c.in-Ok.sheet ∷ []) ∙ ap (λ k. k + 1) count;
      drawn = λ symbols h i s at.
          let all : slice_get (c.loop-i.sheets.items ++ c.in-Ok.sheet ∷ []) i ≡ Some s = sym (ap (λ xs. slice_get xs i) items) ∙ at in
          let here : AllZip IsDrawn c.part-here.result.now (take n (drop k symbols)) =
          rw c.part-here.ensures (AllZip-take IsDrawn n (drop k c.args.labels.now) (drop k symbols) (AllZip-drop IsDrawn k c.args.labels.now symbols h)) in
          let sheet : IsSheet (take n (drop k symbols)) g 0 c.in-Ok.sheet = c.in-Ok.ensures (take n (drop k symbols)) here in
          let same : IsSheet (take (cell_count g) (drop (c.loop-i.i * cell_count g) symbols)) g 0 c.in-Ok.sheet =
          subst (λ n. IsSheet (take n (drop (c.loop-i.i * n) symbols)) g 0 c.in-Ok.sheet) cells sheet in
          elim (last_or_before c.loop-i.sheets.items c.in-Ok.sheet i s all) [
            | inl before ↦ c.loop-i.invariant.drawn symbols h i s before
            | inr last ↦
                let place : i ≡ c.loop-i.i = last.0 ∙ count in
                subst (λ i. IsSheet symbols g i s) (sym place)
                (subst (IsSheet symbols g c.loop-i.i) (sym last.1) (sheet_at g symbols c.loop-i.i c.in-Ok.sheet grid same))
          ];
    }

pub returns-clause-ok : goal.returns-clause-ok
returns-clause-ok c =
    let g : Cells = c.args.grid in
    let p = all_printed g c.args.labels.now c.in_ok-check_labels.ensures.ok in
    let n : ℕ = c.from.result * c.from-2.result in
    let cells : n ≡ cell_count g = ap₂ (λ a b. a * b) (c.from.ensures ∙ ap (λ (g : Cells). g.columns) c.grid.view_is)
    (c.from-2.ensures ∙ ap (λ (g : Cells). g.rows) c.grid.view_is) in
    let long = AllZip-long IsDrawn c.args.labels.now p.symbols p.drawn in
    let end : c.loop-i.i ≡ (length c.args.labels.now + (n - 1)) / n = omega arith in
    record {
      grid = subst IsGrid c.grid.view_is c.grid.invariant;
      symbols = p.symbols;
      drawn = p.drawn;
      fit = p.fit;
      shown = record {
        count = c.loop-i.invariant.count ∙ end ∙ ap₂ (λ l n. (l + (n - 1)) / n) (sym long) cells;
        each = λ i s at. c.loop-i.invariant.drawn p.symbols p.drawn i s at;
      };
    }

pub print_sheet-requires-clause-few : goal.print_sheet-requires-clause-few
print_sheet-requires-clause-few c =
    let n : ℕ = c.from.result * c.from-2.result in
    let cells : n ≡ cell_count c.args.grid = ap₂ (λ a b. a * b) (c.from.ensures ∙ ap (λ (g : Cells). g.columns) c.grid.view_is)
    (c.from-2.ensures ∙ ap (λ (g : Cells). g.rows) c.grid.view_is) in
    few_taken n (cell_count c.args.grid) (drop (c.loop-i.i * n) c.args.labels.now) c.part-here.result.now cells c.part-here.ensures

pub returns-in_default-clause-late : goal.returns-in_default-clause-late
returns-in_default-clause-late c = λ e. c.in_ok-check_labels.ensures.ok

pub returns-then-is_err-clause-late : goal.returns-then-is_err-clause-late
returns-then-is_err-clause-late c = λ e. c.in_ok-check_labels.ensures.ok

pub returns-in_default-clause-refused : goal.returns-in_default-clause-refused
returns-in_default-clause-refused c = λ no. no refl

pub returns-then-is_err-clause-refused : goal.returns-then-is_err-clause-refused
returns-then-is_err-clause-refused c = λ no. no refl

pub overflow_mul-cells : goal.overflow_mul-cells
overflow_mul-cells c =
    let g = c.grid.inside in
    small c.from.result c.from-2.result g.columns g.rows c.from.ensures c.from-2.ensures c.grid.invariant.columns_most c.grid.invariant.rows_most

pub returns-in_err-check_labels-clause-refused : goal.returns-in_err-check_labels-clause-refused
returns-in_err-check_labels-clause-refused c =
    let r = c.from_residual.result in
    refused c.args.grid c.args.labels.now r
    (only_that c.args.grid c.args.labels.now r c.in_err-check_labels.field-0.0 c.from_residual.ensures.1 c.in_err-check_labels.ensures.err)

pub returns-in_err-check_labels-clause-late : goal.returns-in_err-check_labels-clause-late
returns-in_err-check_labels-clause-late c =
    let r = c.from_residual.result in
    late c.args.grid c.args.labels.now r
    (only_that c.args.grid c.args.labels.now r c.in_err-check_labels.field-0.0 c.from_residual.ensures.1 c.in_err-check_labels.ensures.err)
