-- What the columns of printed sheets answer, and that bytes are one list of images (for `printed.rt`, and for `ScanOfPrinted`).
use Rattle.std.proofs.Common.{◌≡◌, ℕ, zero, suc, ◌+◌, ◌*◌, ◌/◌, ◌≤◌, ◌<◌, Bool, true, List, [], Some, Ok, length, map, refl, sym, ap, subst, ◌∙◌, inl, inr, arith, nat_le, nat_lt}
use Rattle.std.specs.List.{AllByRecursion, AllZip, flat_map, range_with_len, slice_get}
use Rattle.std.proofs.lemmas.Bool.{and_from, le-leb, lt-ltb}
use Rattle.std.proofs.lemmas.List.FromFn.{length-map-range_with_len}
use Rattle.std.proofs.lemmas.List.Elements.{All-from_recursion}
use Rattle.std.proofs.lemmas.Nat.{mul-add-lt}
use Rattle.std.proofs.lemmas.Option.{slice_get_cases}
use Rattle.std.proofs.lemmas.Slice.Zip.{AllZip-long}
use Rattle.scan_core.specs.Answers.{IsAnswer, Reads}
use Rattle.scan_core.specs.Laws.{DotsDetermine, DotsMakeRow, OneAnswer}
use Rattle.scan_core.specs.Row.{IsRow, dots_of}
use Rattle.scan_core.specs.declared.answer.Answer.{Answer}
use Rattle.sheet_core.specs.BarRows.{IsBarRow, label_answer}
use Rattle.sheet_core.specs.Bitmaps.{Bitmap, cell_dots}
use Rattle.sheet_core.specs.Drawing.{ArePrinted, cell_count, is_bar_row, sheet_count}
use Rattle.sheet_core.specs.Grids.{Cells}
use Rattle.sheet_core.specs.Labels.{IsDrawn}
use Rattle.sheet_core.specs.Laws.{BarRowsAnswer, EmptyCellsAreBlank, PrintedIsRead}
use Rattle.sheet_core.specs.declared.label.Label.{Label}
use Rattle.sheet_core.specs.pbm.Images.{images_of, pbm_of}
use Rattle.csv_records.specs.print.Labels.{label_list}
use Rattle.command_runs.specs.Columns.{AreColumns, HaveDots, column_cells, column_dots}
use Rattle.command_runs.specs.Printed.{AreScanned, PrintedAnswer, SaysElements, ScannedOnce, WrittenAnswer, cell_answer, column_answers, labels_answers, sheet_answers}
use Rattle.element_core.specs.Terms.{Terms}
use Rattle.command_runs.proofs.ListsBeside.{beside, beside-flat_map, beside-map, from_beside, image_beside, same_beside}

-- as many sheets are printed as the labels fill
pub sheets_counted : (labels : List Label) (g : Cells) (sheets : List Bitmap) → ArePrinted labels g sheets → length sheets ≡ sheet_count g (length labels)
sheets_counted labels g sheets printed = printed.shown.count ∙ ap (sheet_count g) (AllZip-long IsDrawn labels printed.symbols printed.drawn)

-- the middle row of a cell goes through its bars
middle_row : (g : Cells) → 2 * g.dots < g.height → is_bar_row g (g.height / 2) ≡ true
middle_row g high = and_from (nat_le g.dots (g.height / 2)) (nat_lt (g.height / 2 + g.dots) g.height) (le-leb g.dots (g.height / 2) (omega arith))
    (lt-ltb (g.height / 2 + g.dots) g.height (omega arith))

-- a row with these dots has this answer
Answered : Terms → List Bool → Answer → Type 0
Answered year shown answer = (runs : List ℕ) × (IsRow runs × (dots_of runs ≡ shown)) × IsAnswer runs year answer

-- the rows of a column have these answers
Column : Cells → List Bitmap → Terms → ℕ → List Answer → Type 0
Column g sheets year column answers = (rows : List (List ℕ)) × HaveDots rows (flat_map (column_dots g column) sheets) × Reads rows year answers

-- numbers from a first one on lie below an end
range_below : (a n end : ℕ) → a + n ≤ end → AllByRecursion (λ i. i < end) (range_with_len a n)
range_below a zero end h = tt
range_below a (suc n) end h = (omega arith, range_below (a + 1) n end (omega arith))

-- the cells of a column are cells of the sheet: n of `column_cells`, from row a on
cells_within : (g : Cells) (column a n : ℕ) → column < g.columns → a + n ≤ g.rows
    → AllByRecursion (λ cell. cell < cell_count g) (map (λ row. row * g.columns + column) (range_with_len a n))
cells_within g column a zero k h = tt
cells_within g column a (suc n) k h = (mul-add-lt a g.columns column g.rows (omega arith) k, cells_within g column (a + 1) n k (omega arith))

-- a row with these dots has one answer
module _ (rows : DotsDetermine) (one : OneAnswer) (year : Terms) where
  answered_once : (shown : List Bool) (x y : Answer) → Answered year shown x → Answered year shown y → x ≡ y
  unfolding Answered
  answered_once shown x y h k =
      let same : k.0 ≡ h.0 = rows k.0 h.0 k.1.0 h.1.0 (k.1.1 ∙ sym h.1.1) in
      one h.0 year x y h.1.0 h.2 (subst (λ runs. IsAnswer runs year y) same k.2)

  -- so the rows of a column have one list of answers, and all columns have one list of lists
  column_once : (g : Cells) (sheets : List Bitmap) (column : ℕ) (x y : List Answer) → Column g sheets year column x → Column g sheets year column y → x ≡ y
  unfolding Column Answered
  column_once g sheets column x y h k =
      let dots : List (List Bool) = flat_map (column_dots g column) sheets in
      let all : (said : List Answer) → Column g sheets year column said → AllZip (Answered year) dots said =
      λ said c. beside (λ runs shown. IsRow runs × (dots_of runs ≡ shown)) (λ runs answer. IsAnswer runs year answer) c.0 dots said c.1 c.2 in
      same_beside (Answered year) answered_once dots x y (all x h) (all y k)

  columns_once : (g : Cells) (sheets : List Bitmap) (feeds others : List (List (List ℕ))) (x y : List (List Answer))
      → AreColumns g sheets feeds → AllZip (λ rows read. Reads rows year read) feeds x
      → AreColumns g sheets others → AllZip (λ rows read. Reads rows year read) others y → x ≡ y
  unfolding Column
  columns_once g sheets feeds others x y shown read shown_too read_too =
      let columns : List ℕ = range_with_len 0 g.columns in
      let all : (feeds : List (List (List ℕ))) (said : List (List Answer)) → AreColumns g sheets feeds → AllZip (λ rows read. Reads rows year read) feeds said
      → AllZip (Column g sheets year) columns said =
      λ feeds said h k. beside (λ rows column. HaveDots rows (flat_map (column_dots g column) sheets)) (λ rows said. Reads rows year said) feeds columns said h
      k in
      same_beside (Column g sheets year) (column_once g sheets) columns x y (all feeds x shown read) (all others y shown_too read_too)

module _ (bars : BarRowsAnswer) (blank : EmptyCellsAreBlank) (make : DotsMakeRow) (labels : List Label) (g : Cells) (sheets : List Bitmap) (year : Terms)
    (printed : ArePrinted labels g sheets)
    (say : AllByRecursion (SaysElements year) labels) where
  -- a row with the dots of the middle row of a cell answers for the label of the cell, or that it is blank
  cell_says : (i cell : ℕ) (sheet : Bitmap) (runs : List ℕ) → slice_get sheets i ≡ Some sheet → cell < cell_count g
      → IsRow runs → dots_of runs ≡ cell_dots g sheet cell (g.height / 2) → IsAnswer runs year (cell_answer year (slice_get labels (i * cell_count g + cell)))
  cell_says i cell sheet runs at within row dots =
      let high = printed.grid.height_least in
      let place : ℕ = i * cell_count g + cell in
      elim ((slice_get_cases labels place).1) [
        | inl found ↦
            let label : Label = found.0 in
            let bar : IsBarRow labels g sheets label runs = record {
              sheet = i;
              cell = cell;
              y = g.height / 2;
              bitmap = sheet;
              sheet_is = at;
              cell_is = within;
              label_is = found.2;
              through_bars = middle_row g high;
              row_is = row;
              dots = dots;
            } in
            let says : SaysElements year label = subst (SaysElements year) found.3 (All-from_recursion (SaysElements year) labels say place label found.1) in
            rw found.2 ((bars labels g sheets label runs year (label_list label) (label_answer label year (label_list label)) printed bar says).1 refl)
        | inr past ↦ rw past.1 (blank labels g sheets i cell (g.height / 2) sheet runs year printed at within (omega arith) past.0 dots)
      ]

  -- some row shows its dots: a cell is at most 4,096 dots wide, and a row may have 65,535 dots
  cell_answered : (i cell : ℕ) (sheet : Bitmap) → slice_get sheets i ≡ Some sheet → cell < cell_count g
      → Answered year (cell_dots g sheet cell (g.height / 2)) (cell_answer year (slice_get labels (i * cell_count g + cell)))
  unfolding Answered
  cell_answered i cell sheet at within =
      let wide = printed.grid.width_most in
      let long : length (cell_dots g sheet cell (g.height / 2)) ≡ g.width = length-map-range_with_len _ _ _ in
      let row = make (cell_dots g sheet cell (g.height / 2)) (omega arith) in
      (row.0, (row.1, row.2), cell_says i cell sheet row.0 at within row.1 row.2)

  -- so the dots of a column of a sheet have the answers of its cells
  sheet_answered : (column : ℕ) → column < g.columns → (i : ℕ) (sheet : Bitmap) → slice_get sheets i ≡ Some sheet
      → AllZip (Answered year) (column_dots g column sheet) (sheet_answers g year labels column i)
  sheet_answered column k i sheet at =
      let shown : ℕ → List Bool = λ cell. cell_dots g sheet cell (g.height / 2) in
      let said : ℕ → Answer = λ cell. cell_answer year (slice_get labels (i * cell_count g + cell)) in
      beside-map (Answered year) shown (column_cells g column) (sheet_answers g year labels column i)
      (image_beside (λ cell answer. Answered year (shown cell) answer) (λ cell. cell < cell_count g) said (λ cell within. cell_answered i cell sheet at within)
      (column_cells g column) (cells_within g column 0 g.rows k (omega arith)))

  -- and so do those of a column of all sheets
  column_answered : (column : ℕ) → column < g.columns → Column g sheets year column (column_answers g year labels column)
  unfolding Column Answered
  column_answered column k =
      let dots : List (List Bool) = flat_map (column_dots g column) sheets in
      let all : AllZip (Answered year) dots (flat_map (sheet_answers g year labels column) (range_with_len 0 (length sheets))) =
      beside-flat_map (Answered year) (column_dots g column) (sheet_answers g year labels column) sheets 0
      (λ i sheet at. let same : i ≡ 0 + i = omega arith in subst
      (λ n. AllZip (Answered year) (column_dots g column sheet) (sheet_answers g year labels column n)) same (sheet_answered column k i sheet at)) in
      let said : AllZip (Answered year) dots (column_answers g year labels column) =
      subst (λ n. AllZip (Answered year) dots (flat_map (sheet_answers g year labels column) (range_with_len 0 n))) (sheets_counted labels g sheets printed) all in
      from_beside (λ runs shown. IsRow runs × (dots_of runs ≡ shown)) (λ runs answer. IsAnswer runs year answer) dots (column_answers g year labels column) said

  -- and so do those of all columns
  columns_answered : AreScanned g sheets year (labels_answers g year labels)
  unfolding Column
  columns_answered =
      let columns : List ℕ = range_with_len 0 g.columns in
      let all : AllZip (Column g sheets year) columns (map (column_answers g year labels) columns) =
      image_beside (Column g sheets year) (λ column. column < g.columns) (column_answers g year labels) column_answered columns
      (range_below 0 g.columns g.columns (omega arith)) in
      from_beside (λ rows column. HaveDots rows (flat_map (column_dots g column) sheets)) (λ rows said. Reads rows year said) columns
      (map (column_answers g year labels) columns) all

-- printed sheets have the answers of their labels
pub printed_answer : BarRowsAnswer → EmptyCellsAreBlank → DotsMakeRow → PrintedAnswer
printed_answer bars blank make labels g sheets year printed say = columns_answered bars blank make labels g sheets year printed say

-- sheets have one list of answers
pub scanned_once : DotsDetermine → OneAnswer → ScannedOnce
scanned_once rows one g sheets year x y h k = columns_once rows one year g sheets h.0 k.0 x y h.1 h.2 k.1 k.2

-- bytes are one list of images
pub one_list_of_images : (bytes : List ℕ) (sheets others : List Bitmap) → images_of bytes ≡ (Ok sheets, []) → images_of bytes ≡ (Ok others, []) → others ≡ sheets
one_list_of_images bytes sheets others e f =
    let left = ap (λ p. p.0) e in
    let right = ap (λ p. p.0) f in
    cc

-- sheets that were written as images and read again have the answers of the labels, and no others
pub written_answer : PrintedAnswer → ScannedOnce → PrintedIsRead → WrittenAnswer
written_answer answer once read labels g printed sheets year answers is few say images scanned =
    let same = one_list_of_images (pbm_of printed) printed sheets (read labels g printed is few) images in
    let told : AreScanned g printed year answers = subst (λ ss. AreScanned g ss year answers) same scanned in
    once g printed year answers (labels_answers g year labels) told (answer labels g printed year is say)
