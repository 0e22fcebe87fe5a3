-- A sheet of rows of cells has the dots of its labels, and pad bits that are 0.
use Rattle.std.proofs.Common.{◌≡◌, ℕ, zero, suc, ◌+◌, ◌-◌, ◌*◌, ◌/◌, ◌%◌, ◌^◌, ◌<◌, ◌≤◌, ◌==◌, ◌&&◌, Bool, true, false, List, [], length, take, drop, refl, sym, ap, ap₂, ◌∙◌, inl, inr, get_or, arith}
use Rattle.std.specs.Prelude.{None, Option, Some, slice_get, if◌then◌else◌}
use Rattle.std.specs.List.{flat_map}
use Rattle.std.specs.Int.{bit_at}
use Rattle.std.proofs.lemmas.Bool.{cases_lt}
use Rattle.std.proofs.lemmas.Nat.{pow_pos, div-mul-add, div_below, div-add-mod', le-div}
use Rattle.std.proofs.lemmas.Nat.Bits.{bit_at-lt, bit_at-zero, bit_at_above, bit_at_cat_low, same_from_bits}
use Rattle.std.proofs.lemmas.List.{length-take}
use Rattle.std.proofs.lemmas.Option.{slice_get_past}
use Rattle.scan_core.specs.Bits.{dot_at}
use Rattle.sheet_core.specs.Bitmaps.{Bitmap, IsBitmap, pad, stride}
use Rattle.sheet_core.specs.Drawing.{IsSheet, cell_count, cell_dot, cell_over, is_bar_row}
use Rattle.sheet_core.specs.Grids.{Cells, IsGrid}
use Rattle.sheet_core.specs.Labels.{Drawn}
use Rattle.sheet_core.specs.inner.Lines.{band, line_dot, line_dot_of, row_labels}
use Rattle.sheet_core.proofs.BandFacts.{Banded, band_at, band_long, flat_at, flat_long, slice_get-drop, slice_get-take}

mod_low : (n d : ℕ) → 0 < d → n % d < d
mod_low n d h = omega arith

times : (a b w : ℕ) → a + 1 ≤ b → a * w + w ≤ b * w
times a b w h = grind arith

-- the bytes of a sheet
abbrev wide : Cells → ℕ
wide g = stride (g.columns * g.width)

-- byte j of dot row k of row of cells r
byte_at : (g : Cells) (symbols : List Drawn) (n : ℕ) (bytes : List ℕ) → IsGrid g → (h : Banded g symbols n bytes) → (r k j : ℕ) → r < n → k < g.height
    → j < wide g
    → get_or bytes (wide g * (r * g.height + k) + j) 0 ≡ (if is_bar_row g k then get_or (get_or h.lines r []) j 0 else 0)
byte_at g symbols n bytes grid h r k j row low within =
    let line : List ℕ = get_or h.lines r [] in
    let w : ℕ = wide g in
    let fits : 2 * g.dots ≤ g.height = let f = grid.height_least in omega arith in
    let c = h.count in
    let long : (r : ℕ) → r < length h.lines → length (band g (get_or h.lines r [])) ≡ g.height * w =
    λ r low. band_long g (get_or h.lines r []) fits ∙ ap (λ v. g.height * v) ((h.each r (omega arith)).long) in
    let l : length line ≡ w = (h.each r row).long in
    let inside : k * w + j < g.height * w = let t = times k g.height w (omega arith) in omega arith in
    let place : w * (r * g.height + k) + j ≡ r * (g.height * w) + (k * w + j) = grind arith in
    ap (λ bs. get_or bs (w * (r * g.height + k) + j) 0) h.joined
    ∙ ap (λ i. get_or (flat_map (band g) h.lines) i 0) place
    ∙ flat_at (band g) (g.height * w) h.lines r (k * w + j) long (omega arith) inside
    ∙ ap (λ v. get_or (band g line) (k * v + j) 0) (sym l)
    ∙ band_at g line k j fits low (omega arith)

-- dot x of it, pad bits too
dot_of_row : (g : Cells) (symbols : List Drawn) (n : ℕ) (bytes : List ℕ) → IsGrid g → (h : Banded g symbols n bytes) → (r k x : ℕ) → r < n → k < g.height
    → x < 8 * wide g
    → dot_at bytes (8 * (wide g * (r * g.height + k)) + x) ≡ (is_bar_row g k && line_dot g (row_labels g symbols r) x)
dot_of_row g symbols n bytes grid h r k x row low within =
    let a : ℕ = wide g * (r * g.height + k) in
    let byte : (8 * a + x) / 8 ≡ a + x / 8 = omega arith in
    let bit : (8 * a + x) % 8 ≡ x % 8 = omega arith in
    let line : List ℕ = get_or h.lines r [] in
    ap₂ (λ i b. bit_at (get_or bytes i 0) (7 - b) == 1) byte bit
    ∙ ap (λ v. bit_at v (7 - x % 8) == 1) (byte_at g symbols n bytes grid h r k (x / 8) row low (omega arith))
    ∙ choose (is_bar_row g k) (get_or line (x / 8) 0) (7 - x % 8)
    ∙ ap (λ d. is_bar_row g k && d) ((h.each r row).dots x)
  where
    choose : (t : Bool) (v i : ℕ) → (bit_at (if t then v else 0) i == 1) ≡ (t && (bit_at v i == 1))
    choose true v i = refl
    choose false v i = ap (λ (b : ℕ). b == 1) (bit_at-zero i)

-- past the cells nothing is dark
past_dark : (g : Cells) (symbols : List Drawn) (r x : ℕ) → 0 < g.width → g.columns * g.width ≤ x → line_dot g (row_labels g symbols r) x ≡ false
past_dark g symbols r x some past =
    let few : length (row_labels g symbols r) ≤ g.columns = let l = length-take g.columns (drop (r * g.columns) symbols) in omega arith in
    let q : g.columns ≤ x / g.width = le-div g.columns x g.width some past in
    ap (λ o. line_dot_of g o (x % g.width)) (slice_get_past (row_labels g symbols r) (x / g.width) (omega arith))

-- a number without its low bits
low_bits : (n p : ℕ) → ((i : ℕ) → i < p → bit_at n i ≡ 0) → n % 2 ^ p ≡ 0
low_bits n p h = same_from_bits (n % 2 ^ p) 0 (λ i. elim (cases_lt i p) [
  | inl low ↦ sym (bit_at_cat_low (n / 2 ^ p) p (n % 2 ^ p) i low) ∙ ap (λ m. bit_at m i) (div-add-mod' n (2 ^ p)) ∙ h i low ∙ sym (bit_at-zero i)
  | inr high ↦ bit_at_above (n % 2 ^ p) p i (mod_below n p) high ∙ sym (bit_at-zero i)
])
  where
    mod_below : (n p : ℕ) → n % 2 ^ p < 2 ^ p
    mod_below n p = let some = pow_pos p in omega arith

cell_by_line : (g : Cells) (o : Option Drawn) (x y : ℕ) → (is_bar_row g y && line_dot_of g o x) ≡ cell_dot g o x y
cell_by_line g None x y = and_false (is_bar_row g y)
  where
    and_false : (b : Bool) → (b && false) ≡ false
    and_false true = refl
    and_false false = refl
cell_by_line g (Some s) x y = refl

-- the bytes are those of a bitmap
pub bitmap_of_bands : (g : Cells) (symbols : List Drawn) (bytes : List ℕ) → IsGrid g → Banded g symbols g.rows bytes
    → IsBitmap (record { width = g.columns * g.width; height = g.rows * g.height; bytes = bytes })
bitmap_of_bands g symbols bytes grid h =
    let a = grid.columns_least in let b = grid.width_least in let c = grid.rows_least in let d = grid.height_least in
    let e = grid.wide_most in let f = grid.high_most in
    let n : ℕ = g.columns * g.width in
    let w : ℕ = wide g in
    let fits : 2 * g.dots ≤ g.height = omega arith in
    let cl = h.count in
    let wide_some : 1 ≤ n = product g.columns g.width a b in
    let high_some : 1 ≤ g.rows * g.height = product g.rows g.height c (omega arith) in
    let long : length bytes ≡ w * (g.rows * g.height) =
    ap length h.joined
    ∙ flat_long (band g) (g.height * w) h.lines (λ r low. band_long g (get_or h.lines r []) fits ∙ ap (λ v. g.height * v) ((h.each r (omega arith)).long))
    ∙ ap (λ k. k * (g.height * w)) h.count
    ∙ (let x : g.rows * (g.height * w) ≡ w * (g.rows * g.height) = grind arith in x) in
    record {
      width_least = wide_some;
      width_most = omega arith;
      height_least = high_some;
      height_most = omega arith;
      count = long;
      padded = λ i low last.
          let some : 0 < w = omega arith in
          let y : ℕ = i / w in
          let at : i ≡ w * y + (w - 1) = last_byte i w some last in
          let below : y < g.rows * g.height = div_below i w (g.rows * g.height) some (omega arith) in
          let r : ℕ = y / g.height in
          let k : ℕ = y % g.height in
          let split : r * g.height + k ≡ y = div-add-mod' y g.height in
          let row : r < g.rows = div_below y g.height g.rows (omega arith) (let x : g.height * g.rows ≡ g.rows * g.height = grind arith in omega arith) in
          let k_low : k < g.height = mod_low y g.height (omega arith) in
          low_bits (get_or bytes i 0) (pad n) (λ q small.
          let x : ℕ = 8 * (w - 1) + (7 - q) in
          let p = small in
          let byte : (8 * (w * y) + x) / 8 ≡ i = omega arith in
          let bit : 7 - (8 * (w * y) + x) % 8 ≡ q = omega arith in
          let dark : dot_at bytes (8 * (w * y) + x) ≡ false =
          ap (λ m. dot_at bytes (8 * (w * m) + x)) (sym split)
          ∙ dot_of_row g symbols g.rows bytes grid h r k x row k_low (omega arith)
          ∙ ap (λ t. is_bar_row g k && t) (past_dark g symbols r x (omega arith) (omega arith)) ∙ and_false (is_bar_row g k) in
          let same : (bit_at (get_or bytes i 0) q == 1) ≡ false = sym (ap₂ (λ i b. bit_at (get_or bytes i 0) b == 1) byte bit) ∙ dark in
          zero_bit (bit_at (get_or bytes i 0) q) (bit_at-lt (get_or bytes i 0) q) same);
    }
  where
    product : (a b : ℕ) → 1 ≤ a → 1 ≤ b → 1 ≤ a * b
    product a b h k = grind arith

    last_byte : (i w : ℕ) → 0 < w → (i + 1) % w ≡ 0 → i ≡ w * (i / w) + (w - 1)
    last_byte i w some last = by_rows i w ((i + 1) / w) some (let e = div-add-mod' (i + 1) w in omega arith)
      where
        by_rows : (i w q : ℕ) → 0 < w → q * w ≡ i + 1 → i ≡ w * (i / w) + (w - 1)
        by_rows i w zero some e = absurd (omega arith)
        by_rows i w (suc p) some e =
            let m : suc p * w ≡ p * w + w = grind arith in
            let at : i ≡ p * w + (w - 1) = omega arith in
            let row : i / w ≡ p = ap (λ n. n / w) at ∙ div-mul-add p w (w - 1) (omega arith) in
            let t : w * (i / w) ≡ p * w = ap (λ n. w * n) row ∙ (let x : w * p ≡ p * w = grind arith in x) in
            omega arith

    and_false : (b : Bool) → (b && false) ≡ false
    and_false true = refl
    and_false false = refl

    zero_bit : (b : ℕ) → b < 2 → (b == 1) ≡ false → b ≡ 0
    zero_bit zero low e = refl
    zero_bit (suc zero) low e = absurd cc
    zero_bit (suc (suc b)) low e = absurd (omega arith)

-- a sheet of the labels, of at most as many as it has cells
pub sheet_of : (g : Cells) (symbols : List Drawn) (bytes : List ℕ) → IsGrid g → Banded g symbols g.rows bytes
    → IsSheet symbols g 0 (record { width = g.columns * g.width; height = g.rows * g.height; bytes = bytes })
sheet_of g symbols bytes grid h = record {
  width = refl;
  height = refl;
  bitmap = bitmap_of_bands g symbols bytes grid h;
  dots = λ x y right low.
      let some = grid.height_least in let wide_some = grid.width_least in
      let r : ℕ = y / g.height in
      let k : ℕ = y % g.height in
      let split : r * g.height + k ≡ y = div-add-mod' y g.height in
      let row : r < g.rows = div_below y g.height g.rows (omega arith) (let e : g.height * g.rows ≡ g.rows * g.height = grind arith in omega arith) in
      let column : x / g.width < g.columns = div_below x g.width g.columns (omega arith)
      (let e : g.width * g.columns ≡ g.columns * g.width = grind arith in omega arith) in
      let k_low : k < g.height = mod_low y g.height (omega arith) in
      let cell : slice_get (row_labels g symbols r) (x / g.width) ≡ slice_get symbols (r * g.columns + x / g.width) =
      slice_get-take g.columns (drop (r * g.columns) symbols) (x / g.width) column ∙ slice_get-drop (r * g.columns) symbols (x / g.width) in
      ap (λ n. dot_at bytes (8 * (wide g * n) + x)) (sym split)
      ∙ dot_of_row g symbols g.rows bytes grid h r k x row k_low (omega arith)
      ∙ cell_by_line g (slice_get (row_labels g symbols r) (x / g.width)) (x % g.width) k
      ∙ ap (λ o. cell_dot g o (x % g.width) k) (cell ∙ ap (slice_get symbols)
      (let e : r * g.columns + x / g.width ≡ 0 * cell_count g + cell_over g x y = omega arith in e));
}

-- a sheet's labels are a part of all labels
pub sheet_at : (g : Cells) (symbols : List Drawn) (i : ℕ) (s : Bitmap) → IsGrid g → IsSheet (take (cell_count g) (drop (i * cell_count g) symbols)) g 0 s
    → IsSheet symbols g i s
sheet_at g symbols i s grid h = record {
  width = h.width;
  height = h.height;
  bitmap = h.bitmap;
  dots = λ x y right low.
      let n : ℕ = cell_count g in
      let c : ℕ = cell_over g x y in
      let inside : c < n = over g x y s grid h.width h.height right low in
      h.dots x y right low
      ∙ ap (λ o. cell_dot g o (x % g.width) (y % g.height))
      (ap (slice_get (take n (drop (i * n) symbols))) (let e : 0 * n + c ≡ c = omega arith in e) ∙ slice_get-take n (drop (i * n) symbols) c inside
      ∙ slice_get-drop (i * n) symbols c);
}
  where
    over : (g : Cells) (x y : ℕ) (s : Bitmap) → IsGrid g → s.width ≡ g.columns * g.width → s.height ≡ g.rows * g.height → x < s.width → y < s.height
        → cell_over g x y < cell_count g
    over g x y s grid w h right low =
        let some = grid.height_least in let wide_some = grid.width_least in
        let row : y / g.height < g.rows = div_below y g.height g.rows (omega arith) (let e : g.height * g.rows ≡ g.rows * g.height = grind arith in omega arith)
        in
        let column : x / g.width < g.columns = div_below x g.width g.columns (omega arith)
        (let e : g.width * g.columns ≡ g.columns * g.width = grind arith in omega arith) in
        let t = times (y / g.height) g.rows g.columns (omega arith) in
        let e : g.rows * g.columns ≡ g.columns * g.rows = grind arith in
        omega arith
