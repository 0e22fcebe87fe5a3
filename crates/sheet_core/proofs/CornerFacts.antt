-- A row of a cell of a sheet has the dots of its label.
use Rattle.std.proofs.Common.{◌≡◌, ℕ, ◌+◌, ◌*◌, ◌/◌, ◌%◌, ◌<◌, ◌≤◌, ◌&&◌, true, false, Some, List, sym, ap, ap₂, ◌∙◌, arith, replicate}
use Rattle.std.specs.Prelude.{slice_get, None}
use Rattle.std.proofs.lemmas.Nat.{div-mul-add, div-add-mod', div_below}
use Rattle.std.proofs.lemmas.List.{ext_get_or, get_or-replicate, length-replicate}
use Rattle.std.proofs.lemmas.List.FromFn.{length-map-range_with_len, get_or-map-range_with_len}
use Rattle.scan_core.specs.Bits.{dot_at}
use Rattle.sheet_core.specs.Bitmaps.{Bitmap, cell_dots, stride}
use Rattle.sheet_core.specs.Drawing.{IsSheet, bar_dot, bar_dots, cell_dot, is_bar_row}
use Rattle.sheet_core.specs.Grids.{Cells}
use Rattle.sheet_core.specs.Labels.{Drawn}

mod_of : (a w b : ℕ) → b < w → (a * w + b) % w ≡ b
mod_of a w b h = let q = div-mul-add a w b h in let e = div-add-mod' (a * w + b) w in let m : (a * w + b) / w * w ≡ a * w = ap (λ n. n * w) q in omega arith

times : (a b w : ℕ) → a + 1 ≤ b → a * w + w ≤ b * w
times a b w h = grind arith

pub label_row : (labels : List Drawn) (g : Cells) (i : ℕ) (s : Bitmap) (cell y : ℕ) (d : Drawn) → IsSheet labels g i s → 0 < g.columns
    → cell < g.columns * g.rows → y < g.height → is_bar_row g y ≡ true → slice_get labels (i * (g.columns * g.rows) + cell) ≡ Some d
    → cell_dots g s cell y ≡ bar_dots g d
label_row labels g i s cell y d sheet some within inside bar label =
    let column : ℕ = cell % g.columns in
    let line : ℕ = cell / g.columns in
    let from : ℕ = 8 * (stride s.width * (line * g.height + y)) + column * g.width in
    let column_low : column < g.columns = omega arith in
    let split : line * g.columns + column ≡ cell = div-add-mod' cell g.columns in
    let line_low : line < g.rows = div_below cell g.columns g.rows some (let e : g.columns * g.rows ≡ g.rows * g.columns = grind arith in omega arith) in
    let right = times column g.columns g.width (omega arith) in
    let bottom = times line g.rows g.height (omega arith) in
    let wide = sheet.width in
    let high = sheet.height in
    ext_get_or false (cell_dots g s cell y) (bar_dots g d)
    (length-map-range_with_len (dot_at s.bytes) from g.width ∙ sym (length-map-range_with_len (bar_dot g d) 0 g.width)) (λ j h.
    let n = length-map-range_with_len (dot_at s.bytes) from g.width in
    let low : j < g.width = omega arith in
    let x : ℕ = column * g.width + j in
    let row : ℕ = line * g.height + y in
    get_or-map-range_with_len (dot_at s.bytes) from g.width j (8 * (stride s.width * row) + x) false low (omega arith)
    ∙ sheet.dots x row (omega arith) (omega arith)
    ∙ ap₂ (λ q r. cell_dot g (slice_get labels (i * (g.columns * g.rows) + (q * g.columns + r))) (x % g.width) (row % g.height))
    (div-mul-add line g.height y inside) (div-mul-add column g.width j low)
    ∙ ap (λ c. cell_dot g (slice_get labels (i * (g.columns * g.rows) + c)) (x % g.width) (row % g.height)) split
    ∙ ap (λ o. cell_dot g o (x % g.width) (row % g.height)) label
    ∙ ap₂ (λ a b. is_bar_row g b && bar_dot g d a) (mod_of column g.width j low) (mod_of line g.height y inside)
    ∙ ap (λ b. b && bar_dot g d j) bar
    ∙ sym (get_or-map-range_with_len (bar_dot g d) 0 g.width j j false low (omega arith)))

-- and a row of a cell without a label is light
pub empty_row : (symbols : List Drawn) (g : Cells) (i : ℕ) (s : Bitmap) (cell y : ℕ) → IsSheet symbols g i s → 0 < g.columns
    → cell < g.columns * g.rows → y < g.height → slice_get symbols (i * (g.columns * g.rows) + cell) ≡ None
    → cell_dots g s cell y ≡ replicate g.width false
empty_row symbols g i s cell y sheet some within inside none =
    let column : ℕ = cell % g.columns in
    let line : ℕ = cell / g.columns in
    let from : ℕ = 8 * (stride s.width * (line * g.height + y)) + column * g.width in
    let column_low : column < g.columns = omega arith in
    let split : line * g.columns + column ≡ cell = div-add-mod' cell g.columns in
    let line_low : line < g.rows = div_below cell g.columns g.rows some (let e : g.columns * g.rows ≡ g.rows * g.columns = grind arith in omega arith) in
    let right = times column g.columns g.width (omega arith) in
    let bottom = times line g.rows g.height (omega arith) in
    let wide = sheet.width in
    let high = sheet.height in
    let n = length-map-range_with_len (dot_at s.bytes) from g.width in
    ext_get_or false (cell_dots g s cell y) (replicate g.width false) (n ∙ sym (length-replicate g.width false)) (λ j h.
    let low : j < g.width = omega arith in
    let x : ℕ = column * g.width + j in
    let row : ℕ = line * g.height + y in
    get_or-map-range_with_len (dot_at s.bytes) from g.width j (8 * (stride s.width * row) + x) false low (omega arith)
    ∙ sheet.dots x row (omega arith) (omega arith)
    ∙ ap₂ (λ q r. cell_dot g (slice_get symbols (i * (g.columns * g.rows) + (q * g.columns + r))) (x % g.width) (row % g.height))
    (div-mul-add line g.height y inside) (div-mul-add column g.width j low)
    ∙ ap (λ c. cell_dot g (slice_get symbols (i * (g.columns * g.rows) + c)) (x % g.width) (row % g.height)) split
    ∙ ap (λ o. cell_dot g o (x % g.width) (row % g.height)) none
    ∙ sym (get_or-replicate g.width j false false low))

pub corner_fits : (columns rows width height cell : ℕ) → 0 < columns → cell < columns * rows → (cell % columns * width + width ≤ columns * width)
    × (cell / columns * height + height ≤ rows * height)
corner_fits columns rows width height cell some h =
    let low : cell % columns < columns = omega arith in
    let line : cell / columns < rows = div_below cell columns rows some (let e : columns * rows ≡ rows * columns = grind arith in omega arith) in
    (times (cell % columns) columns width (omega arith), times (cell / columns) rows height (omega arith))
