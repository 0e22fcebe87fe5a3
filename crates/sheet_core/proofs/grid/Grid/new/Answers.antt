use Rattle.std.proofs.Common.{rules, ◌≡◌, ◌≤◌, ◌+◌, ◌*◌, ◌&&◌, cond, ℕ, Bool, true, false, refl}
use Rattle.std.specs.Range.{TellsInRangeInclusive}
use Rattle.std.specs.contracts.prelude.U16PartialOrd.TheImpl.{partial_cmp-value}
use Rattle.std.specs.Ordering.{partial_le, partial_lt}
use Rattle.sheet_core.specs.Grids.{IsGrid}
use Rattle.sheet_core.proofs.grid.Grid.new.Goals.{Else-not-fits_sheet-2}
use Rattle.sheet_core.proofs.grid.Grid.new.Goals.{then-not-contains-via-then-not-contains, then-not-contains-via-else-not-contains+then-not-contains-2}
use Rattle.sheet_core.proofs.grid.Grid.new.Goals.{then-not-contains-4-via-then-not-contains-4, then-not-contains-4-via-else-not-contains-4+then-not-contains-5}
use Rattle.sheet_core.proofs.grid.Grid.new.Goals.{then-not-fits_sheet-via-then-not-fits_sheet}
use Rattle.sheet_core.proofs.grid.Grid.new.Goals.{then-not-fits_sheet-via-else-not-fits_sheet+then-not-fits_sheet-2}
use Rattle.sheet_core.proofs.grid.Grid.new.Goals as goal

-- a number in a range
between : (a b x s e : ℕ) → s ≡ a → e ≡ b → TellsInRangeInclusive partial_cmp-value.it s e x true → (a ≤ x) × (x ≤ b)
between a b x s e p q h = search rules

-- a number that is in no such range
outside : (a b x s e : ℕ) (spent : Bool) → s ≡ a → e ≡ b → spent ≡ false
    → false ≡ (partial_le partial_cmp-value.it s x && cond spent (partial_lt partial_cmp-value.it x e) (partial_le partial_cmp-value.it x e))
    → a ≤ x → x ≤ b → false ≡ true
outside a b x s e spent p q r h below above = search rules

none : {P : Type 0} → false ≡ true → P
none e = absurd (cc)

-- the numbers that are no error are a grid
is_grid : (c : Else-not-fits_sheet-2)
    → IsGrid (record { dots = c.args.module_dots; width = c.args.cell_width; height = c.args.cell_height; columns = c.args.columns; rows = c.args.rows })
is_grid c =
    let a = c.args in
    let dots = between 1 8 a.module_dots _ _ c.new.ensures.start c.new.ensures.end c.if-not-contains.ensures.cases in
    let width = between 1 4096 a.cell_width _ _ c.new-else-not-contains.ensures.start c.new-else-not-contains.ensures.end c.if-not-contains-2.ensures.cases in
    let height = between (2 * a.module_dots + 1) 1024 a.cell_height _ _ c.new-2.ensures.start c.new-2.ensures.end c.if-not-contains-3.ensures.cases in
    let columns = between 1 16 a.columns _ _ c.new-3.ensures.start c.new-3.ensures.end c.if-not-contains-4.ensures.cases in
    let rows = between 1 64 a.rows _ _ c.new-else-not-contains-4.ensures.start c.new-else-not-contains-4.ensures.end c.if-not-contains-5.ensures.cases in
    record {
      dots_least = dots.0;
      dots_most = dots.1;
      width_least = width.0;
      width_most = width.1;
      height_least = search (rules, height.0);
      height_most = height.1;
      columns_least = columns.0;
      columns_most = columns.1;
      rows_least = rows.0;
      rows_most = rows.1;
      wide_most = c.fits_sheet.ensures.0 c.if-not-fits_sheet.false;
      high_most = c.fits_sheet-else-not-fits_sheet.ensures.0 c.if-not-fits_sheet-2.false;
    }

pub invariant_of-result : goal.invariant_of-result
invariant_of-result c = is_grid c

pub returns-clause-exact : goal.returns-clause-exact
returns-clause-exact c = (λ ok. is_grid c, λ grid. refl)

pub returns-then-not-contains-clause-exact : goal.returns-then-not-contains-clause-exact
returns-then-not-contains-clause-exact c = (
  λ ok. none ok,
  λ grid. elim c.then-not-contains.branch [
    | then-not-contains-via-then-not-contains w ↦
        outside 1 8 c.args.module_dots _ _ _ c.new.ensures.start c.new.ensures.end c.new.ensures.exhausted w.if-not-contains.ensures.value
        grid.dots_least grid.dots_most
    | then-not-contains-via-else-not-contains+then-not-contains-2 w ↦
        let n = w.new-else-not-contains.ensures in
        outside 1 4096 c.args.cell_width _ _ _ n.start n.end n.exhausted w.if-not-contains-2.ensures.value grid.width_least grid.width_most
  ],
)

pub returns-then-not-contains-3-clause-exact : goal.returns-then-not-contains-3-clause-exact
returns-then-not-contains-3-clause-exact c = (
  λ ok. none ok,
  λ grid.
      let n = c.new-2.ensures in
      outside (2 * c.args.module_dots + 1) 1024 c.args.cell_height _ _ _ n.start n.end n.exhausted c.if-not-contains-3.ensures.value
      (search (rules, grid.height_least)) grid.height_most,
)

pub returns-then-not-contains-4-clause-exact : goal.returns-then-not-contains-4-clause-exact
returns-then-not-contains-4-clause-exact c = (
  λ ok. none ok,
  λ grid. elim c.then-not-contains-4.branch [
    | then-not-contains-4-via-then-not-contains-4 w ↦
        outside 1 16 c.args.columns _ _ _ c.new-3.ensures.start c.new-3.ensures.end c.new-3.ensures.exhausted w.if-not-contains-4.ensures.value
        grid.columns_least grid.columns_most
    | then-not-contains-4-via-else-not-contains-4+then-not-contains-5 w ↦
        let n = w.new-else-not-contains-4.ensures in
        outside 1 64 c.args.rows _ _ _ n.start n.end n.exhausted w.if-not-contains-5.ensures.value grid.rows_least grid.rows_most
  ],
)

pub returns-then-not-fits_sheet-clause-exact : goal.returns-then-not-fits_sheet-clause-exact
returns-then-not-fits_sheet-clause-exact c = (
  λ ok. none ok,
  λ grid. elim c.then-not-fits_sheet.branch [
    | then-not-fits_sheet-via-then-not-fits_sheet w ↦ w.if-not-fits_sheet.ensures.1 grid.wide_most
    | then-not-fits_sheet-via-else-not-fits_sheet+then-not-fits_sheet-2 w ↦ w.if-not-fits_sheet-2.ensures.1 grid.high_most
  ],
)
