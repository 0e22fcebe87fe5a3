-- Where a reader of cells stands as it goes on (for `columns.rt`; of specs/inner/CellRows).
use Rattle.std.proofs.Common.{◌≡◌, ℕ, ◌+◌, ◌*◌, ◌/◌, ◌<◌, ◌≤◌, ◌++◌, ◌∷◌, ◌&&◌, ◌==◌, ◌∙◌, Bool, true, false, Err, List, None, Ok, Option, Result, Some, [], append_assoc, ap, append-nil, arith, inl, inr, length, length-append, refl, subst, sym}
use Rattle.std.specs.Borrow.{MutBor}
use Rattle.std.proofs.Math.Nat.{mul-le-mul_left, mul-le-mul_right}
use Rattle.std.proofs.lemmas.Bool.{and_parts, cases_lt, eqb-true}
use Rattle.std.specs.Io.KnownBytes.{IsAtEnd}
use Rattle.hub_core.specs.Traffics.{HasRoom, with_more}
use Rattle.scan_core.specs.Row.{IsRow}
use Rattle.sheet_core.specs.Bitmaps.{Bitmap, stride}
use Rattle.sheet_core.specs.Grids.{Cells, IsGrid}
use Rattle.sheet_core.specs.declared.fault.PbmFault.{PbmFault}
use Rattle.sheet_core.specs.declared.pbm.rows.ImageRows.{ImageRows}
use Rattle.sheet_core.specs.declared.pbm.state.Size.{Size}
use Rattle.sheet_core.specs.pbm.Images.{bitmap_of}
use Rattle.sheet_core.specs.pbm.Rows.{BeginsImage, BeginsNext, GoesOnBy, HasRows, HasSheets, PassesBytes, PassesImage, ShowsDots, byte_count}
use Rattle.command_runs.specs.Columns.{has_size, have_size}
use Rattle.command_runs.specs.declared.columns.CellRows.{CellRows}
use Rattle.command_runs.specs.declared.columns.Course.{Course}
use Rattle.command_runs.specs.declared.columns.Course.TheVariants as course
use Rattle.command_runs.specs.inner.CellRows.{AtCell, AtLast, AtSheet, GaveCells, GaveCellsAt, HaveCells, HaveColumns, IsAtRow, IsBegun, PassesSheets}
use Rattle.command_runs.proofs.CellsGiven.{first_row, has_room, is_sized, next_cell, next_row, sheet_ends, size_more, sizes_more}

-- a sheet of a grid's size
pub sized : (g : Cells) (s : Bitmap) → has_size g s ≡ true → (s.width ≡ g.columns * g.width) × (s.height ≡ g.rows * g.height)
sized g s size =
    let both = and_parts (s.width == g.columns * g.width) (s.height == g.rows * g.height) size in
    (eqb-true s.width (g.columns * g.width) both.0, eqb-true s.height (g.rows * g.height) both.1)

module _ {S : Type 0} (left : S → Option (List ℕ)) (failed : S → Bool) where
  -- a sheet is passed behind others
  pub sheet_passed : (old mid begun new : ImageRows S) (more : List Bitmap) (size : Size) (bytes : List ℕ) → PassesSheets left failed old more mid
      → BeginsNext left failed mid (Ok (Some size)) begun → PassesImage left failed begun new bytes
      → PassesSheets left failed old (more ++ bitmap_of begun.size bytes ∷ []) new
  sheet_passed old mid begun new more size bytes before next passes = λ lent sheets h.
      subst (HasSheets left failed lent new) (append_assoc sheets more (bitmap_of begun.size bytes ∷ []))
      (passes.on lent (sheets ++ more) [] (next lent (sheets ++ more) (before lent sheets h)))

  -- what is left of an image that has begun reaches to its middle row
  pub half_left : (g : Cells) (size : Size) (left : ℕ) → IsGrid g → size.width ≡ g.columns * g.width → size.height ≡ g.rows * g.height → left ≡ byte_count size
      → stride size.width * (g.height / 2) + stride size.width ≤ left
  half_left g size left is wide high all =
      let w : ℕ = stride size.width in
      let least : g.height ≤ size.height = rows_high g.rows g.height size.height is.rows_least high in
      let enough : g.height / 2 + 1 ≤ size.height = omega (arith, is.height_least, is.dots_least, least) in
      let sum : w * (g.height / 2) + w ≡ w * (g.height / 2 + 1) = grind arith in
      let most : w * (g.height / 2 + 1) ≤ w * size.height = mul-le-mul_left w enough in
      omega (arith, sum, most, all)
    where
      rows_high : (rows height high : ℕ) → 1 ≤ rows → high ≡ rows * height → height ≤ high
      rows_high rows height high some is =
          let most : 1 * height ≤ rows * height = mul-le-mul_right height some in omega (arith, most, is)

  -- and from one row of cells to the next
  pub row_left : (g : Cells) (size : Size) (row passed left : ℕ) → IsGrid g → size.height ≡ g.rows * g.height → row + 1 < g.rows
      → passed ≡ stride size.width * (row * g.height + g.height / 2) → passed + left ≡ byte_count size
      → stride size.width * g.height + stride size.width ≤ left
  row_left g size row passed left is high within above all =
      let w : ℕ = stride size.width in
      let rows : (row + 2) * g.height ≤ g.rows * g.height = mul-le-mul_right g.height (omega (arith, within)) in
      let split : (row + 2) * g.height ≡ row * g.height + 2 * g.height = grind arith in
      let enough : (row * g.height + g.height / 2) + (g.height + 1) ≤ size.height = omega (arith, rows, split, high, is.height_least, is.dots_least) in
      let sum : w * (row * g.height + g.height / 2) + (w * g.height + w) ≡ w * ((row * g.height + g.height / 2) + (g.height + 1)) = grind arith in
      let most : w * ((row * g.height + g.height / 2) + (g.height + 1)) ≤ w * size.height = mul-le-mul_left w enough in
      omega (arith, sum, most, all, above)

  -- the middle row of the first cells is held
  pub at_first : (g : Cells) (begun new : ImageRows S) (count : ℕ) → IsGrid g → begun.size.width ≡ g.columns * g.width → begun.size.height ≡ g.rows * g.height
      → GoesOnBy left failed count begun (Ok tt) new → count ≡ stride begun.size.width * (g.height / 2) → stride new.size.width ≤ length new.held
      → (lent : MutBor S) (sheets : List Bitmap) → HasRows left failed lent begun sheets [] → IsBegun left failed g lent sheets (Ok course.Cells) new
  at_first g begun new count is wide high goes half held lent sheets h =
      let (bytes, long, p) = goes in
      let same : stride new.size.width ≡ stride begun.size.width = ap (λ s. stride s.width) p.size in
      let none : 0 * g.height ≡ 0 = omega arith in (
        bytes,
        p.on lent sheets [] h,
        record {
          low = is.rows_least;
          wide = ap (λ s. s.width) p.size ∙ wide;
          high = ap (λ s. s.height) p.size ∙ high;
          above = long ∙ half ∙ ap (λ w. w * (g.height / 2)) (sym same) ∙ ap (λ n. stride new.size.width * n) (let e : g.height / 2 ≡ 0 * g.height + g.height / 2 = omega arith in e);
          held = held;
        },
      )

  -- the middle row of the next row of cells is held
  pub at_next : (old new : CellRows S) → IsGrid old.grid → old.column ≡ old.grid.columns → old.row + 1 < old.grid.rows
      → GoesOnBy left failed (stride old.images.size.width * old.grid.height) old.images (Ok tt) new.images → stride new.images.size.width ≤ length new.images.held
      → new.grid ≡ old.grid → new.row ≡ old.row + 1 → new.column ≡ 0
      → (lent : MutBor S) (given : List (List (List ℕ))) → AtCell left failed lent old given → AtCell left failed lent new given
  at_next old new is all within goes held grid row column lent given was =
      let (bytes, long, p) = goes in
      let w : ℕ = stride old.images.size.width in
      let g = old.grid in
      let same : stride new.images.size.width ≡ w = ap (λ s. stride s.width) p.size in
      let at = was.at in
      let passed : List ℕ = was.passed ++ bytes in
      let sum : w * (old.row * g.height + g.height / 2) + w * g.height ≡ w * ((old.row + 1) * g.height + g.height / 2) = grind arith in
      let down : length passed ≡ w * ((old.row + 1) * g.height + g.height / 2) = omega (arith, length-append was.passed bytes, long, at.above, sum) in
      let grown : passed ++ new.images.held ≡ (was.passed ++ old.images.held) ++ p.read =
      append_assoc was.passed bytes new.images.held ∙ ap (λ xs. was.passed ++ xs) (sym p.held) ∙ sym (append_assoc was.passed old.images.held p.read) in
      record {
        sheets = was.sheets;
        passed = passed;
        has = p.on lent was.sheets was.passed was.has;
        fit = rw grid was.fit;
        at = rw (grid, row) record {
          low = within;
          wide = ap (λ s. s.width) p.size ∙ at.wide;
          high = ap (λ s. s.height) p.size ∙ at.high;
          above = down ∙ ap (λ w. w * ((old.row + 1) * g.height + g.height / 2)) (sym same);
          held = held;
        };
        column = rw (column, grid) (omega arith);
        cells = rw (grid, row, column, p.size) (next_row g was.sheets old.images.size (was.passed ++ old.images.held) (passed ++ new.images.held) p.read old.row old.column given all grown was.cells);
      }

  -- the sheet of the last row of cells was read
  pub at_end : (old new : CellRows S) (bytes : List ℕ) → old.column ≡ old.grid.columns → (old.row + 1 < old.grid.rows → ⊥) → PassesImage left failed old.images new.images bytes
      → new.grid ≡ old.grid → (lent : MutBor S) (given : List (List (List ℕ))) → AtCell left failed lent old given → AtSheet left failed lent new given
  at_end old new bytes all last p grid lent given was =
      let s : Bitmap = bitmap_of old.images.size (was.passed ++ bytes) in
      let at = was.at in
      let whole : was.passed ++ bytes ≡ (was.passed ++ old.images.held) ++ p.read = ap (λ xs. was.passed ++ xs) (sym p.held) ∙ sym (append_assoc was.passed old.images.held p.read) in
      record {
        sheets = was.sheets ++ s ∷ [];
        has = p.on lent was.sheets was.passed was.has;
        fit = rw grid (size_more old.grid was.sheets s true true was.fit (is_sized old.grid s at.wide at.high));
        columns = rw grid (sheet_ends old.grid was.sheets old.images.size (was.passed ++ old.images.held) (was.passed ++ bytes) p.read old.row old.column given all
            (last_row old.row old.grid.rows at.low last) whole was.cells);
      }
    where
      last_row : (row rows : ℕ) → row < rows → (row + 1 < rows → ⊥) → row + 1 ≡ rows
      last_row row rows low none = elim (cases_lt (row + 1) rows) [
        | inl less ↦ absurd (none less)
        | inr more ↦ omega (arith, low, more)
      ]

  -- how far a reader comes at the next image
  pub begun_cells : (old new : CellRows S) (result : Result Course PbmFault) (at : Course) → new.grid ≡ old.grid → new.row ≡ 0 → new.column ≡ 0
      → (lent : MutBor S) (given : List (List (List ℕ))) (was : AtSheet left failed lent old given) → IsBegun left failed old.grid lent was.sheets result new.images
      → (result ≡ Ok at → GaveCellsAt left failed lent new given at)
  begun_cells old new result course.Sheets grid row column lent given was is same = absurd (rw same at is)
  begun_cells old new result course.Cells grid row column lent given was is same =
      let (passed, has, at) = rw same at is in
      record {
        sheets = was.sheets;
        passed = passed;
        has = has;
        fit = rw grid was.fit;
        at = rw (grid, row) at;
        column = rw column (omega arith);
        cells = rw (grid, row, column) (first_row old.grid was.sheets new.images.size (passed ++ new.images.held) given was.columns);
      }
  begun_cells old new result course.Ended grid row column lent given was is same =
      let last = rw same at is in
      (record { sheets = was.sheets; has = last.has; fit = rw grid was.fit; columns = rw grid was.columns }, last.end)
  begun_cells old new result course.Unfit grid row column lent given was is same =
      let (more, last, unfit) = rw same at is in
      (was.sheets ++ more, last, rw grid (sizes_more old.grid was.sheets more true false was.fit unfit))
  begun_cells old new result (course.Refused fault) grid row column lent given was is same = absurd (rw same at is)

  -- the next cell is given
  pub cell_given : (old new : CellRows S) (runs : List ℕ) → IsGrid old.grid → old.images.begun ≤ 4096 → old.column < old.grid.columns → new.grid ≡ old.grid
      → new.images ≡ old.images → new.row ≡ old.row → new.column ≡ old.column + 1
      → IsRow runs → ShowsDots old.images.size old.images.held (old.column * old.grid.width) old.grid.width runs
      → (lent : MutBor S) (given : List (List (List ℕ))) → AtCell left failed lent old given
      → HasRoom old.column given × AtCell left failed lent new (with_more old.column runs given)
  cell_given old new runs is few low grid images row column row_is shows lent given was = (
    has_room old.grid was.sheets old.images.size (was.passed ++ old.images.held) old.row old.column given low was.at.low is.rows_most (omega (arith, few, was.has.count)) was.cells,
    record {
      sheets = was.sheets;
      passed = was.passed;
      has = rw images was.has;
      fit = rw grid was.fit;
      at = rw (grid, images, row) was.at;
      column = rw (grid, column) (omega (arith, low));
      cells = rw (grid, images, row, column)
          (next_cell old.grid was.sheets old.images.size was.passed old.images.held old.row old.column given runs low was.at.above row_is shows was.cells);
    },
  )
