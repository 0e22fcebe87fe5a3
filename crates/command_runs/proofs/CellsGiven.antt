-- The rows of cells that were given, as one more comes, as a row of cells is left and as a sheet ends (for `columns.rt`).
use Rattle.std.proofs.Common.{◌≡◌, ◌≢◌, ℕ, zero, suc, ◌+◌, ◌*◌, ◌/◌, ◌<◌, ◌≤◌, ◌++◌, ◌∷◌, ◌&&◌, ◌∙◌, Bool, true, false, List, [], append_assoc, ap, ap₂, append-nil, arith, eq-eqb, get_or, inl, inr, length, length-append, map, nat_lt, refl, replicate, set, subst, sym}
use Rattle.std.specs.Prelude.{if◌then◌else◌}
use Rattle.std.specs.List.{AllZip, flat_map, range_with_len}
use Rattle.std.proofs.Math.Bool.{and-true}
use Rattle.std.proofs.Math.Nat.{mul-le-mul_right}
use Rattle.std.proofs.lemmas.Bool.{cases_eq, cases_lt, le-ltb, lt-ltb}
use Rattle.std.proofs.lemmas.Nat.{div-mul-add, mod-mul-add}
use Rattle.std.proofs.lemmas.Grind.{flat_map-append}
use Rattle.std.proofs.lemmas.List.{get_or-replicate, get_or-set_other, get_or-set_same, length-map, length-replicate, length-set, map-append}
use Rattle.std.proofs.lemmas.List.Folds.{list_all-append}
use Rattle.std.proofs.lemmas.List.FromFn.{length-map-range_with_len, map-range_with_len_more}
use Rattle.std.proofs.lemmas.Slice.Zip.{AllZip-long, all_zipped_more}
use Rattle.hub_core.specs.Traffics.{HasRoom, with_more}
use Rattle.scan_core.specs.Row.{IsRow, dots_of}
use Rattle.sheet_core.specs.Bitmaps.{Bitmap, cell_dots, dots_in, stride}
use Rattle.sheet_core.specs.Grids.{Cells}
use Rattle.sheet_core.specs.declared.pbm.state.Size.{Size}
use Rattle.sheet_core.specs.pbm.Images.{bitmap_of}
use Rattle.sheet_core.specs.pbm.Rows.{ShowsDots}
use Rattle.command_runs.specs.Columns.{AreColumns, HaveDots, column_dots, has_size, have_size}
use Rattle.command_runs.specs.inner.CellRows.{HaveCells, HaveColumns, front_dots}
use Rattle.command_runs.proofs.ColumnsByPlace.{cells_long}
use Rattle.command_runs.proofs.ListPlaces.{pieces_long}

-- ---- one more cell

-- one more row of cells of a column
front_more : (g : Cells) (column : ℕ) (s : Bitmap) (n : ℕ) → front_dots g column s (n + 1)
    ≡ front_dots g column s n ++ cell_dots g s (n * g.columns + column) (g.height / 2) ∷ []
front_more g column s n =
    let dots : ℕ → List Bool = λ cell. cell_dots g s cell (g.height / 2) in
    let cell : ℕ → ℕ = λ row. row * g.columns + column in
    ap (map dots) (map-range_with_len_more cell 0 n n (omega arith)) ∙ map-append dots (map cell (range_with_len 0 n)) (cell n ∷ [])

-- the dots of a cell are where its row and its column are
cell_there : (g : Cells) (s : Bitmap) (row column : ℕ) → column < g.columns → cell_dots g s (row * g.columns + column) (g.height / 2)
    ≡ dots_in s (column * g.width) (row * g.height + g.height / 2) g.width
cell_there g s row column low =
    ap₂ (λ x y. dots_in s (x * g.width) (y * g.height + g.height / 2) g.width) (mod-mul-add row g.columns column low) (div-mul-add row g.columns column low)

-- how many of the first rows of cells a column has, before and after a cell of the next one
count_here : (c row : ℕ) → (if nat_lt c (c + 1) then row + 1 else row) ≡ (if nat_lt c c then row + 1 else row) + 1
count_here c row =
    ap (λ (t : Bool). if t then row + 1 else row) (lt-ltb c (c + 1) (omega arith)) ∙ ap (λ (t : Bool). (if t then row + 1 else row) + 1) (sym (le-ltb c c (omega arith)))

count_there : (i c row : ℕ) → i ≢ c → (if nat_lt i (c + 1) then row + 1 else row) ≡ (if nat_lt i c then row + 1 else row)
count_there i c row other =
    elim (cases_lt i c) [
      | inl before ↦
          ap (λ (t : Bool). if t then row + 1 else row) (lt-ltb i (c + 1) (omega (arith, before)))
          ∙ ap (λ (t : Bool). if t then row + 1 else row) (sym (lt-ltb i c before))
      | inr behind ↦
          ap (λ (t : Bool). if t then row + 1 else row) (le-ltb i (c + 1) (above behind))
          ∙ ap (λ (t : Bool). if t then row + 1 else row) (sym (le-ltb i c behind))
    ]
  where
    above : c ≤ i → c + 1 ≤ i
    above behind = elim (cases_lt c i) [
      | inl less ↦ omega (arith, less)
      | inr same ↦ absurd (other (omega (arith, same, behind)))
    ]

pub next_cell : (g : Cells) (sheets : List Bitmap) (size : Size) (passed held : List ℕ) (row c : ℕ) (given : List (List (List ℕ))) (runs : List ℕ) → c < g.columns
    → length passed ≡ stride size.width * (row * g.height + g.height / 2) → IsRow runs → ShowsDots size held (c * g.width) g.width runs
    → HaveCells g sheets size (passed ++ held) row c given
    → HaveCells g sheets size (passed ++ held) row (c + 1) (with_more c runs given)
next_cell g sheets size passed held row c given runs low above is shows was = record {
  long = length-set given c (get_or given c [] ++ runs ∷ []) ∙ was.long;
  each = λ rest i within.
      let s : Bitmap = bitmap_of size ((passed ++ held) ++ rest) in
      let lists : List (List (List ℕ)) = with_more c runs given in
      let n : ℕ = if nat_lt i c then row + 1 else row in
      let before = was.each rest i within in
      elim (cases_eq i c) [
        | inl same ↦
            let here : get_or lists i [] ≡ get_or given i [] ++ runs ∷ [] =
            ap (λ k. get_or lists k []) same ∙ get_or-set_same given c (get_or given c [] ++ runs ∷ []) [] (omega (arith, low, was.long))
            ∙ ap (λ k. get_or given k [] ++ runs ∷ []) (sym same) in
            let count : (if nat_lt i (c + 1) then row + 1 else row) ≡ n + 1 =
            ap (λ k. if nat_lt k (c + 1) then row + 1 else row) same ∙ count_here c row ∙ ap (λ k. (if nat_lt k c then row + 1 else row) + 1) (sym same) in
            let at : n ≡ row = ap (λ k. if nat_lt k c then row + 1 else row) same ∙ ap (λ (t : Bool). if t then row + 1 else row) (le-ltb c c (omega arith)) in
            let shown : dots_of runs ≡ cell_dots g s (n * g.columns + i) (g.height / 2) =
            shows passed rest (row * g.height + g.height / 2) above
            ∙ ap (λ bs. dots_in (bitmap_of size bs) (c * g.width) (row * g.height + g.height / 2) g.width) (sym (append_assoc passed held rest))
            ∙ sym (cell_there g s row c low)
            ∙ ap₂ (λ n i. cell_dots g s (n * g.columns + i) (g.height / 2)) (sym at) (sym same) in
            let pre : List (List Bool) = flat_map (column_dots g i) sheets in
            let all : pre ++ front_dots g i s (n + 1) ≡ (pre ++ front_dots g i s n) ++ cell_dots g s (n * g.columns + i) (g.height / 2) ∷ [] =
            ap (λ xs. pre ++ xs) (front_more g i s n) ∙ sym (append_assoc pre (front_dots g i s n) (cell_dots g s (n * g.columns + i) (g.height / 2) ∷ [])) in
            rw (here, count, all) (all_zipped_more _ (get_or given i []) (pre ++ front_dots g i s n) runs (cell_dots g s (n * g.columns + i) (g.height / 2)) before (is, shown))
        | inr other ↦
            rw (get_or-set_other given c i (get_or given c [] ++ runs ∷ []) [] other, count_there i c row other) before
      ];
}

-- ---- rows of cells, and sheets

-- none of the next sheet yet
pub first_row : (g : Cells) (sheets : List Bitmap) (size : Size) (part : List ℕ) (given : List (List (List ℕ))) → HaveColumns g sheets given
    → HaveCells g sheets size part 0 0 given
first_row g sheets size part given was = record {
  long = was.long;
  each = λ rest i low.
      let none : (if nat_lt i 0 then 0 + 1 else 0) ≡ 0 = ap (λ (t : Bool). if t then 0 + 1 else 0) (le-ltb i 0 (omega arith)) in
      rw none (subst (HaveDots (get_or given i [])) (sym (append-nil (flat_map (column_dots g i) sheets))) (was.each i low));
}

-- from the end of a row of cells to the next one, of a part that has grown
pub next_row : (g : Cells) (sheets : List Bitmap) (size : Size) (old new more : List ℕ) (row c : ℕ) (given : List (List (List ℕ))) → c ≡ g.columns
    → new ≡ old ++ more → HaveCells g sheets size old row c given → HaveCells g sheets size new (row + 1) 0 given
next_row g sheets size old new more row c given all grown was = record {
  long = was.long;
  each = λ rest i low.
      let before : (if nat_lt i c then row + 1 else row) ≡ row + 1 = ap (λ (t : Bool). if t then row + 1 else row) (lt-ltb i c (omega (arith, low, all))) in
      let after : (if nat_lt i 0 then row + 1 + 1 else row + 1) ≡ row + 1 = ap (λ (t : Bool). if t then row + 1 + 1 else row + 1) (le-ltb i 0 (omega arith)) in
      let same : old ++ (more ++ rest) ≡ new ++ rest = sym (append_assoc old more rest) ∙ ap (λ xs. xs ++ rest) (sym grown) in
      rw after (rw (before, same) at (was.each (more ++ rest) i low));
}

-- at the end of the last one, the sheet
pub sheet_ends : (g : Cells) (sheets : List Bitmap) (size : Size) (old whole more : List ℕ) (row c : ℕ) (given : List (List (List ℕ))) → c ≡ g.columns
    → row + 1 ≡ g.rows → whole ≡ old ++ more → HaveCells g sheets size old row c given → HaveColumns g (sheets ++ bitmap_of size whole ∷ []) given
sheet_ends g sheets size old whole more row c given all last grown was = record {
  long = was.long;
  each = λ i low.
      let s : Bitmap = bitmap_of size whole in
      let count : (if nat_lt i c then row + 1 else row) ≡ g.rows = ap (λ (t : Bool). if t then row + 1 else row) (lt-ltb i c (omega (arith, low, all))) ∙ last in
      let longer : flat_map (column_dots g i) (sheets ++ s ∷ []) ≡ flat_map (column_dots g i) sheets ++ column_dots g i s =
      flat_map-append (column_dots g i) sheets (s ∷ []) ∙ ap (λ t. flat_map (column_dots g i) sheets ++ t) (append-nil (column_dots g i s)) in
      rw longer (rw (count, ← grown) at (was.each more i low));
}

-- whether one more sheet has the size too
pub size_more : (g : Cells) (sheets : List Bitmap) (s : Bitmap) (fit fits : Bool) → have_size g sheets ≡ fit → has_size g s ≡ fits
    → have_size g (sheets ++ s ∷ []) ≡ (fit && fits)
size_more g sheets s fit fits was is = list_all-append (has_size g) sheets (s ∷ []) ∙ ap₂ (λ a b. a && b) was (and-true (has_size g s) ∙ is)

pub sizes_more : (g : Cells) (sheets more : List Bitmap) (fit fits : Bool) → have_size g sheets ≡ fit → have_size g more ≡ fits
    → have_size g (sheets ++ more) ≡ (fit && fits)
sizes_more g sheets more fit fits was is = list_all-append (has_size g) sheets more ∙ ap₂ (λ a b. a && b) was is

pub is_sized : (g : Cells) (s : Bitmap) → s.width ≡ g.columns * g.width → s.height ≡ g.rows * g.height → has_size g s ≡ true
is_sized g s wide high = ap₂ (λ a b. a && b) (eq-eqb s.width (g.columns * g.width) wide) (eq-eqb s.height (g.rows * g.height) high)

-- ---- lists that stand beside the numbers of columns

pub zip_places : {X : Type 0} (R : X → ℕ → Type 0) (xs : List X) (d : X) (a n : ℕ) → length xs ≡ n → ((i : ℕ) → i < n → R (get_or xs i d) (a + i))
    → AllZip R xs (range_with_len a n)
zip_places R [] d a zero long each = tt
zip_places R [] d a (suc n) long each = absurd (omega (arith, long))
zip_places R (x ∷ xs) d a zero long each = absurd (omega (arith, long))
zip_places R (x ∷ xs) d a (suc n) long each = (
  subst (R x) (omega arith) (each 0 (omega arith)),
  zip_places R xs d (a + 1) n (omega (arith, long)) (λ i low. subst (R (get_or xs i d)) (let e : a + suc i ≡ a + 1 + i = omega arith in e) (each (suc i) (omega (arith, low)))),
)

pub are_columns : (g : Cells) (sheets : List Bitmap) (given : List (List (List ℕ))) → HaveColumns g sheets given → AreColumns g sheets given
are_columns g sheets given have =
    let R : List (List ℕ) → ℕ → Type 0 = λ rows column. HaveDots rows (flat_map (column_dots g column) sheets) in
    zip_places R given [] 0 g.columns have.long (λ i low. subst (R (get_or given i [])) (let e : i ≡ 0 + i = omega arith in e) (have.each i low))

-- of no sheets no column has a row
pub no_columns : (g : Cells) (given : List (List (List ℕ))) → given ≡ replicate g.columns [] → HaveColumns g [] given
no_columns g given none = record {
  long = ap length none ∙ length-replicate g.columns [];
  each = λ i low. subst (λ rows. HaveDots rows []) (sym (ap (λ lists. get_or lists i []) none ∙ get_or-replicate g.columns i [] [] low)) tt;
}

-- a lane of them has a ticket left
pub has_room : (g : Cells) (sheets : List Bitmap) (size : Size) (part : List ℕ) (row c : ℕ) (given : List (List (List ℕ))) → c < g.columns → row < g.rows
    → g.rows ≤ 64 → length sheets ≤ 4096 → HaveCells g sheets size part row c given → HasRoom c given
has_room g sheets size part row c given low within rows few have =
    let s : Bitmap = bitmap_of size (part ++ []) in
    let same = AllZip-long _ (get_or given c []) _ (have.each [] c low) in
    let long = pieces_long (column_dots g c) g.rows (λ s. cells_long _ g c) sheets in
    let n : ℕ = if nat_lt c c then row + 1 else row in
    let at : n ≡ row = ap (λ (t : Bool). if t then row + 1 else row) (le-ltb c c (omega arith)) in
    let front : length (front_dots g c s n) ≡ n =
    length-map (map (λ row. row * g.columns + c) (range_with_len 0 n)) (λ cell. cell_dots g s cell (g.height / 2)) ∙ length-map-range_with_len (λ row. row * g.columns + c) 0 n in
    let most : length sheets * g.rows ≤ 4096 * g.rows = mul-le-mul_right g.rows few in (
      omega (arith, low, have.long),
      omega (arith, same, length-append (flat_map (column_dots g c) sheets) (front_dots g c s n), long, front, at, most, rows, within),
    )
