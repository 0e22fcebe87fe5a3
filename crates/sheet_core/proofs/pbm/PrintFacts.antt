-- What is printed piece by piece: where a piece is not written, the others are there all the same.
use Rattle.std.proofs.Common.{◌≡◌, ℕ, zero, suc, ◌+◌, ◌-◌, ◌*◌, ◌/◌, ◌%◌, ◌^◌, ◌<◌, ◌≤◌, ◌&&◌, ◌||◌, ◌==◌, nat_lt, Bool, true, false, List, [], ◌∷◌, ◌++◌, length, replicate, set, take, drop, refl, sym, ap, subst, ◌∙◌, inl, inr, get_or, arith}
use Rattle.std.specs.Prelude.{IsOk, OnOk, Option, Result, Ok, Err, Some, slice_get, bit_or}
use Rattle.std.specs.Io.KnownBytes.{Appends}
use Rattle.std.proofs.KnownBytes.{Appends-trans}
use Rattle.std.proofs.lemmas.Bool.{cases_lt, false≢true, le-ltb, lt-ltb}
use Rattle.std.proofs.lemmas.Bool.Decides.{nat_tests}
use Rattle.std.proofs.lemmas.Grind.{flat_map-append}
use Rattle.std.proofs.lemmas.List.{append-nil, append_assoc, length-append, length-replicate, length-set, length-take}
use Rattle.std.proofs.lemmas.Nat.{div-mul-add, le-div}
use Rattle.std.proofs.lemmas.Option.{slice_get_past}
use Rattle.digits_core.specs.Bytes.{TookFront}
use Rattle.scan_core.specs.Bits.{dot_at}
use Rattle.sheet_core.specs.Bitmaps.{Bitmap, stride}
use Rattle.sheet_core.specs.Drawing.{AreSheets, IsSheet, cell_count, sheet_count}
use Rattle.sheet_core.specs.Grids.{Cells, IsGrid}
use Rattle.sheet_core.specs.Labels.{Drawn}
use Rattle.sheet_core.specs.inner.Lines.{IsBand, IsBarLine, band, line_dot, line_dot_of, repeated_bytes, row_labels}
use Rattle.sheet_core.specs.pbm.Headers.{header_text}
use Rattle.sheet_core.specs.pbm.Images.{image, pbm_of}
use Rattle.sheet_core.proofs.BandFacts.{Banded, banded_more, banded_none}
use Rattle.sheet_core.proofs.CellLineFacts.{light_dots}
use Rattle.sheet_core.proofs.OneLabelSymbol.{last_or_before}
use Rattle.sheet_core.proofs.DarkDots.{dot_set}
use Rattle.sheet_core.proofs.SheetFacts.{sheet_at, sheet_of}
use Rattle.sheet_core.proofs.pbm.FileFacts.{took_after, took_more}

pub on_ok : {A E : Type 0} (r : Result A E) (P Q : Type 0) → (P → Q) → OnOk r P → OnOk r Q
on_ok (Ok x) P Q f h = f h
on_ok (Err e) P Q f h = tt

pub ok_at : {A E : Type 0} (r : Result A E) (P : Type 0) → IsOk r → OnOk r P → P
ok_at (Ok x) P h p = p
ok_at (Err e) P h p = absurd (false≢true h)

-- ---- bytes with given dots

-- bytes whose first n dots are these, and whose others are light
record WithDots (f : ℕ → Bool) (n w : ℕ) : Type 0 where
  line : List ℕ
  long : length line ≡ w
  dots : (k : ℕ) → dot_at line k ≡ (nat_lt k n && f k)

one_dot : (f : ℕ → Bool) (n k : ℕ) → f n ≡ true → ((k == n) || (nat_lt k n && f k)) ≡ (nat_lt k (n + 1) && f k)
one_dot f n k dark =
    elim (cases_lt k n) [
      | inl low ↦ grind (arith, nat_tests)
      | inr high ↦ grind (arith, nat_tests)
    ]

no_dot : (f : ℕ → Bool) (n k : ℕ) → f n ≡ false → (nat_lt k n && f k) ≡ (nat_lt k (n + 1) && f k)
no_dot f n k light = grind (arith, nat_tests)

more_dots : (f : ℕ → Bool) (w n : ℕ) (dark : Bool) → n < 8 * w → f n ≡ dark → WithDots f n w → WithDots f (n + 1) w
more_dots f w n true fits is before = record {
  line = set before.line (n / 8) (bit_or (get_or before.line (n / 8) 0) (1 * 2 ^ (7 - n % 8) % 256));
  long = length-set before.line (n / 8) (bit_or (get_or before.line (n / 8) 0) (1 * 2 ^ (7 - n % 8) % 256)) ∙ before.long;
  dots = λ k. dot_set before.line n (let l = before.long in omega arith) k ∙ ap (λ b. (k == n) || b) (before.dots k) ∙ one_dot f n k is;
}
more_dots f w n false fits is before = record {
  line = before.line;
  long = before.long;
  dots = λ k. before.dots k ∙ no_dot f n k is;
}

with_dots : (f : ℕ → Bool) (w n : ℕ) → n ≤ 8 * w → WithDots f n w
with_dots f w zero fits = record {
  line = replicate w 0;
  long = length-replicate {A = ℕ} w 0;
  dots = λ k. light_dots w k ∙ sym (ap (λ b. b && f k) (le-ltb k 0 (omega arith)));
}
with_dots f w (suc n) fits =
    subst (λ m. WithDots f m w) (let e : n + 1 ≡ suc n = omega arith in e) (more_dots f w n (f n) (omega arith) refl (with_dots f w n (omega arith)))

-- cells side by side have a line
pub line_of : (g : Cells) (symbols : List Drawn) → IsGrid g → length symbols ≤ g.columns → (line : List ℕ) × IsBarLine g symbols line
line_of g symbols grid few =
    let n : ℕ = g.columns * g.width in
    let some = grid.width_least in
    let drawn = with_dots (line_dot g symbols) (stride n) n (omega arith) in (
      drawn.line,
      record {
        long = drawn.long;
        dots = λ x. drawn.dots x ∙ elim (cases_lt x n) [
          | inl within ↦ ap (λ b. b && line_dot g symbols x) (lt-ltb x n within)
          | inr past ↦
              let q : g.columns ≤ x / g.width = le-div g.columns x g.width (omega arith) past in
              ap (λ b. b && line_dot g symbols x) (le-ltb x n past)
              ∙ sym (ap (λ o. line_dot_of g o (x % g.width)) (slice_get_past symbols (x / g.width) (omega arith)))
        ];
      },
    )

-- ---- rows of cells

pub rows_add : (n k : ℕ) (line : List ℕ) → repeated_bytes (n + k) line ≡ repeated_bytes n line ++ repeated_bytes k line
rows_add zero k line = ap (λ m. repeated_bytes m line) (let e : 0 + k ≡ k = omega arith in e)
rows_add (suc n) k line =
    ap (λ m. repeated_bytes m line) (let e : suc n + k ≡ suc (n + k) = omega arith in e)
    ∙ ap (λ bs. line ++ bs) (rows_add n k line)
    ∙ sym (append_assoc line (repeated_bytes n line) (repeated_bytes k line))

-- the bytes of a row of cells of which a front went out
abbrev pub BandFront : Cells → List Drawn → Option (List ℕ) → Option (List ℕ) → Type 0
BandFront g symbols a b = (bytes : List ℕ) × IsBand g symbols bytes × TookFront a b bytes

-- a light line of cells side by side
abbrev pub light_of : Cells → List ℕ
light_of g = replicate (stride (g.columns * g.width)) 0

-- how many rows the bars of a cell are high
abbrev pub bar_rows : Cells → ℕ
bar_rows g = g.height - 2 * g.dots

band_parts : (g : Cells) (symbols : List Drawn) (line : List ℕ) → IsBarLine g symbols line → band g line ≡ repeated_bytes g.dots (light_of g)
    ++ (repeated_bytes (bar_rows g) line ++ repeated_bytes g.dots (light_of g))
band_parts g symbols line h = ap (λ w. repeated_bytes g.dots (replicate w 0) ++ (repeated_bytes (bar_rows g) line ++ repeated_bytes g.dots (replicate w 0)))
    h.long

-- the light rows above the bars are cut
pub band_above : (g : Cells) (symbols : List Drawn) (a b : Option (List ℕ)) (light : List ℕ) (n : ℕ) → IsGrid g → length symbols ≤ g.columns → light
    ≡ light_of g → n ≡ g.dots
    → TookFront a b (repeated_bytes n light) → BandFront g symbols a b
band_above g symbols a b light n grid few is count front =
    let drawn = line_of g symbols grid few in
    let above : TookFront a b (repeated_bytes g.dots (light_of g)) =
    subst (λ k. TookFront a b (repeated_bytes k (light_of g))) count (subst (λ l. TookFront a b (repeated_bytes n l)) is front) in (
      band g drawn.0,
      (drawn.0, drawn.1, refl),
      subst (TookFront a b) (sym (band_parts g symbols drawn.0 drawn.1))
          (took_more a b (repeated_bytes g.dots (light_of g)) (repeated_bytes (bar_rows g) drawn.0 ++ repeated_bytes g.dots (light_of g)) above),
    )

-- the light rows above the bars went out
above_out : (g : Cells) (a b : Option (List ℕ)) (light : List ℕ) (n : ℕ) → light ≡ light_of g → n ≡ g.dots → Appends a b (repeated_bytes n light)
    → Appends a b (repeated_bytes g.dots (light_of g))
above_out g a b light n is count out = subst (λ k. Appends a b (repeated_bytes k (light_of g))) count (subst (λ l. Appends a b (repeated_bytes n l)) is out)

-- the bars are cut
pub band_bars : (g : Cells) (symbols : List Drawn) (a b d : Option (List ℕ)) (light line : List ℕ) (n m : ℕ) → IsBarLine g symbols line → light ≡ light_of g → n
    ≡ g.dots → m ≡ bar_rows g
    → Appends a b (repeated_bytes n light) → TookFront b d (repeated_bytes m line) → BandFront g symbols a d
band_bars g symbols a b d light line n m drawn is count high out front =
    let bars : TookFront b d (repeated_bytes (bar_rows g) line) = subst (λ k. TookFront b d (repeated_bytes k line)) high front in (
      band g line,
      (line, drawn, refl),
      subst (TookFront a d) (sym (band_parts g symbols line drawn))
          (took_after a b d (repeated_bytes g.dots (light_of g)) (repeated_bytes (bar_rows g) line ++ repeated_bytes g.dots (light_of g))
          (above_out g a b light n is count out)
          (took_more b d (repeated_bytes (bar_rows g) line) (repeated_bytes g.dots (light_of g)) bars)),
    )

-- the light rows below the bars are cut
pub band_below : (g : Cells) (symbols : List Drawn) (a b d e : Option (List ℕ)) (light line dark : List ℕ) (n m : ℕ) → IsBarLine g symbols line → light
    ≡ light_of g → dark ≡ light_of g → n ≡ g.dots → m ≡ bar_rows g
    → Appends a b (repeated_bytes n light) → Appends b d (repeated_bytes m line) → TookFront d e (repeated_bytes n dark) → BandFront g symbols a e
band_below g symbols a b d e light line dark n m drawn is also count high out bars front =
    let below : TookFront d e (repeated_bytes g.dots (light_of g)) =
    subst (λ k. TookFront d e (repeated_bytes k (light_of g))) count (subst (λ l. TookFront d e (repeated_bytes n l)) also front) in
    let between : Appends b d (repeated_bytes (bar_rows g) line) = subst (λ k. Appends b d (repeated_bytes k line)) high bars in (
      band g line,
      (line, drawn, refl),
      subst (TookFront a e) (sym (band_parts g symbols line drawn))
          (took_after a b e (repeated_bytes g.dots (light_of g)) (repeated_bytes (bar_rows g) line ++ repeated_bytes g.dots (light_of g))
          (above_out g a b light n is count out)
          (took_after b d e (repeated_bytes (bar_rows g) line) (repeated_bytes g.dots (light_of g)) between below)),
    )

-- all rows went out
pub band_out : (g : Cells) (symbols : List Drawn) (a b d e : Option (List ℕ)) (light line dark : List ℕ) (n m : ℕ) → IsBarLine g symbols line → light
    ≡ light_of g → dark ≡ light_of g → n ≡ g.dots → m ≡ bar_rows g
    → Appends a b (repeated_bytes n light) → Appends b d (repeated_bytes m line) → Appends d e (repeated_bytes n dark) → (bytes : List ℕ)
    × IsBand g symbols bytes × Appends a e bytes
band_out g symbols a b d e light line dark n m drawn is also count high out bars last =
    let between : Appends b d (repeated_bytes (bar_rows g) line) = subst (λ k. Appends b d (repeated_bytes k line)) high bars in (
      band g line,
      (line, drawn, refl),
      subst (Appends a e) (sym (band_parts g symbols line drawn))
          (Appends-trans a b e (repeated_bytes g.dots (light_of g)) (repeated_bytes (bar_rows g) line ++ repeated_bytes g.dots (light_of g))
          (above_out g a b light n is count out)
          (Appends-trans b d e (repeated_bytes (bar_rows g) line) (repeated_bytes g.dots (light_of g)) between (above_out g d e dark n also count last))),
    )

few_in_row : (g : Cells) (symbols : List Drawn) (r : ℕ) → length (row_labels g symbols r) ≤ g.columns
few_in_row g symbols r = let l = length-take g.columns (drop (r * g.columns) symbols) in omega arith

-- more rows of cells after those that are there
pub record Rest (g : Cells) (symbols : List Drawn) (n : ℕ) (bytes : List ℕ) : Type 0 where
  pub rest : List ℕ
  pub all : Banded g symbols n (bytes ++ rest)

pub banded_rest : (g : Cells) (symbols : List Drawn) (n k : ℕ) (bytes : List ℕ) → IsGrid g → Banded g symbols n bytes → Rest g symbols (n + k) bytes
banded_rest g symbols n zero bytes grid h = record {
  rest = [];
  all = subst (λ bs. Banded g symbols (n + 0) bs) (sym (append-nil bytes)) (subst (λ m. Banded g symbols m bytes) (let e : n ≡ n + 0 = omega arith in e) h);
}
banded_rest g symbols n (suc k) bytes grid h =
    let before = banded_rest g symbols n k bytes grid h in
    let drawn = line_of g (row_labels g symbols (n + k)) grid (few_in_row g symbols (n + k)) in
    let joined : bytes ++ (before.rest ++ band g drawn.0) ≡ (bytes ++ before.rest) ++ band g drawn.0 = sym (append_assoc bytes before.rest (band g drawn.0)) in
    record {
      rest = before.rest ++ band g drawn.0;
      all = subst (λ m. Banded g symbols m (bytes ++ (before.rest ++ band g drawn.0))) (let e : n + k + 1 ≡ n + suc k = omega arith in e)
          (banded_more g symbols (n + k) (bytes ++ before.rest) (bytes ++ (before.rest ++ band g drawn.0)) drawn.0 before.all drawn.1 joined);
    }

-- all rows of cells after those that are there
pub banded_all : (g : Cells) (symbols : List Drawn) (n : ℕ) (bytes : List ℕ) → IsGrid g → n ≤ g.rows → Banded g symbols n bytes → Rest g symbols g.rows bytes
banded_all g symbols n bytes grid low h =
    subst (λ m. Rest g symbols m bytes) (let e : n + (g.rows - n) ≡ g.rows = omega arith in e) (banded_rest g symbols n (g.rows - n) bytes grid h)

-- one row of cells more
pub band_more : (g : Cells) (symbols : List Drawn) (n : ℕ) (bytes more : List ℕ) → Banded g symbols n bytes → IsBand g (row_labels g symbols n) more
    → Banded g symbols (n + 1) (bytes ++ more)
band_more g symbols n bytes more h b = banded_more g symbols n bytes (bytes ++ more) b.0 h b.1 (ap (λ bs. bytes ++ bs) b.2)

-- the bytes of a sheet of which a front went out
abbrev pub SheetFront : Cells → List Drawn → Option (List ℕ) → Option (List ℕ) → Type 0
SheetFront g symbols a b = (sheet : Bitmap) × IsSheet symbols g 0 sheet × TookFront a b (image sheet)

-- the sheet of rows of cells
abbrev pub sheet_bytes : Cells → List ℕ → Bitmap
sheet_bytes g bytes = record { width = g.columns * g.width; height = g.rows * g.height; bytes = bytes }

-- the header of a sheet
abbrev pub head_of : Cells → List ℕ
head_of g = header_text (g.columns * g.width) (g.rows * g.height)

-- the header is cut
pub sheet_head : (g : Cells) (symbols : List Drawn) (a b : Option (List ℕ)) (head : List ℕ) → IsGrid g → head ≡ head_of g → TookFront a b head
    → SheetFront g symbols a b
sheet_head g symbols a b head grid is front =
    let all = banded_all g symbols 0 [] grid (omega arith) (banded_none g symbols [] refl) in (
      sheet_bytes g ([] ++ all.rest),
      sheet_of g symbols ([] ++ all.rest) grid all.all,
      took_more a b (head_of g) ([] ++ all.rest) (subst (TookFront a b) is front),
    )

-- a row of cells is cut
pub sheet_band : (g : Cells) (symbols : List Drawn) (n : ℕ) (a b d e : Option (List ℕ)) (head bytes : List ℕ) → IsGrid g → n < g.rows → head ≡ head_of g
    → Appends a b head → Banded g symbols n bytes
    → Appends b d bytes → BandFront g (row_labels g symbols n) d e → SheetFront g symbols a e
sheet_band g symbols n a b d e head bytes grid low is first h out front =
    let more : List ℕ = front.0 in
    let all = banded_all g symbols (n + 1) (bytes ++ more) grid (omega arith) (band_more g symbols n bytes more h front.1) in
    let rows : List ℕ = (bytes ++ more) ++ all.rest in
    let joined : head_of g ++ rows ≡ head_of g ++ (bytes ++ (more ++ all.rest)) = ap (λ bs. head_of g ++ bs) (append_assoc bytes more all.rest) in (
      sheet_bytes g rows,
      sheet_of g symbols rows grid all.all,
      subst (TookFront a e) (sym joined)
          (took_after a b e (head_of g) (bytes ++ (more ++ all.rest)) (subst (Appends a b) is first)
          (took_after b d e bytes (more ++ all.rest) out (took_more d e more all.rest front.2))),
    )

-- the sheet went out
pub sheet_out : (g : Cells) (symbols : List Drawn) (a b d : Option (List ℕ)) (head bytes : List ℕ) → IsGrid g → head ≡ head_of g → Appends a b head
    → Banded g symbols g.rows bytes → Appends b d bytes
    → (sheet : Bitmap) × IsSheet symbols g 0 sheet × Appends a d (image sheet)
sheet_out g symbols a b d head bytes grid is first h out = (
  sheet_bytes g bytes,
  sheet_of g symbols bytes grid h,
  Appends-trans a b d (head_of g) bytes (subst (Appends a b) is first) out,
)

-- ---- sheets

-- the labels have a sheet at each place
sheet_there : (g : Cells) (symbols : List Drawn) (i : ℕ) → IsGrid g → (s : Bitmap) × IsSheet symbols g i s
sheet_there g symbols i grid =
    let here : List Drawn = take (cell_count g) (drop (i * cell_count g) symbols) in
    let all = banded_all g here 0 [] grid (omega arith) (banded_none g here [] refl) in
    let s : Bitmap = sheet_bytes g ([] ++ all.rest) in
    (s, sheet_at g symbols i s grid (sheet_of g here ([] ++ all.rest) grid all.all))

-- these are the first sheets of the labels
pub record Sheeted (g : Cells) (symbols : List Drawn) (n : ℕ) (sheets : List Bitmap) : Type 0 where
  pub count : length sheets ≡ n
  pub each : (i : ℕ) (s : Bitmap) → slice_get sheets i ≡ Some s → IsSheet symbols g i s

pub sheeted_none : (g : Cells) (symbols : List Drawn) → Sheeted g symbols 0 []
sheeted_none g symbols = record { count = refl; each = λ i s at. cc at }

pub sheeted_more : (g : Cells) (symbols : List Drawn) (n : ℕ) (sheets : List Bitmap) (s : Bitmap) → Sheeted g symbols n sheets → IsSheet symbols g n s
    → Sheeted g symbols (n + 1) (sheets ++ s ∷ [])
sheeted_more g symbols n sheets s h drawn = record {
  count = length-append sheets (s ∷ []) ∙ ap (λ k. k + 1) h.count;
  each = λ i t at. elim (last_or_before sheets s i t at) [
    | inl before ↦ h.each i t before
    | inr last ↦ subst (λ j. IsSheet symbols g j t) (sym (last.0 ∙ h.count)) (subst (IsSheet symbols g n) (sym last.1) drawn)
  ];
}

-- more sheets after those that are there
pub record Others (g : Cells) (symbols : List Drawn) (n : ℕ) (sheets : List Bitmap) : Type 0 where
  pub others : List Bitmap
  pub all : Sheeted g symbols n (sheets ++ others)

sheeted_rest : (g : Cells) (symbols : List Drawn) (n k : ℕ) (sheets : List Bitmap) → IsGrid g → Sheeted g symbols n sheets → Others g symbols (n + k) sheets
sheeted_rest g symbols n zero sheets grid h = record {
  others = [];
  all = subst (λ ss. Sheeted g symbols (n + 0) ss) (sym (append-nil sheets)) (subst (λ m. Sheeted g symbols m sheets) (let e : n ≡ n + 0 = omega arith in e) h);
}
sheeted_rest g symbols n (suc k) sheets grid h =
    let before = sheeted_rest g symbols n k sheets grid h in
    let next = sheet_there g symbols (n + k) grid in
    record {
      others = before.others ++ next.0 ∷ [];
      all = subst (λ ss. Sheeted g symbols (n + suc k) ss) (append_assoc sheets before.others (next.0 ∷ []))
          (subst (λ m. Sheeted g symbols m ((sheets ++ before.others) ++ next.0 ∷ [])) (let e : n + k + 1 ≡ n + suc k = omega arith in e)
          (sheeted_more g symbols (n + k) (sheets ++ before.others) next.0 before.all next.1));
    }

-- all sheets after those that are there
pub sheeted_all : (g : Cells) (symbols : List Drawn) (n m : ℕ) (sheets : List Bitmap) → IsGrid g → n ≤ m → Sheeted g symbols n sheets
    → Others g symbols m sheets
sheeted_all g symbols n m sheets grid low h =
    subst (λ k. Others g symbols k sheets) (let e : n + (m - n) ≡ m = omega arith in e) (sheeted_rest g symbols n (m - n) sheets grid h)

-- ---- what was written

-- one sheet more
pub wrote_sheet : (a b c : Option (List ℕ)) (sheets : List Bitmap) (s : Bitmap) → Appends a b (pbm_of sheets) → Appends b c (image s)
    → Appends a c (pbm_of (sheets ++ s ∷ []))
wrote_sheet a b c sheets s h k =
    let joined : pbm_of (sheets ++ s ∷ []) ≡ pbm_of sheets ++ image s =
    flat_map-append image sheets (s ∷ []) ∙ ap (λ bs. pbm_of sheets ++ bs) (append-nil (image s)) in
    subst (Appends a c) (sym joined) (Appends-trans a b c (pbm_of sheets) (image s) h k)

-- a front of one sheet more, before others
pub took_sheet : (a b c : Option (List ℕ)) (sheets others : List Bitmap) (s : Bitmap) → Appends a b (pbm_of sheets) → TookFront b c (image s)
    → TookFront a c (pbm_of ((sheets ++ s ∷ []) ++ others))
took_sheet a b c sheets others s h k =
    let joined : pbm_of ((sheets ++ s ∷ []) ++ others) ≡ pbm_of sheets ++ (image s ++ pbm_of others) =
    ap pbm_of (append_assoc sheets (s ∷ []) others) ∙ flat_map-append image sheets (s ∷ others) in
    subst (TookFront a c) (sym joined) (took_after a b c (pbm_of sheets) (image s ++ pbm_of others) h (took_more b c (image s) (pbm_of others) k))

-- the bytes of the sheets of which a front went out
abbrev pub SheetsFront : Cells → List Drawn → Option (List ℕ) → Option (List ℕ) → Type 0
SheetsFront g symbols a b = (sheets : List Bitmap) × AreSheets symbols g sheets × TookFront a b (pbm_of sheets)

are_sheets : (g : Cells) (symbols : List Drawn) (n : ℕ) (sheets : List Bitmap) → n ≡ sheet_count g (length symbols) → Sheeted g symbols n sheets
    → AreSheets symbols g sheets
are_sheets g symbols n sheets e h = record { count = h.count ∙ e; each = h.each }

-- the labels of sheet i
abbrev pub sheet_labels : {A : Type 0} → Cells → List A → ℕ → List A
sheet_labels g labels i = take (cell_count g) (drop (i * cell_count g) labels)

-- a sheet is cut
pub sheets_cut : (g : Cells) (symbols : List Drawn) (n count : ℕ) (a b d : Option (List ℕ)) (sheets : List Bitmap) → IsGrid g → n < count → count
    ≡ sheet_count g (length symbols) → Sheeted g symbols n sheets
    → Appends a b (pbm_of sheets) → SheetFront g (sheet_labels g symbols n) b d → SheetsFront g symbols a d
sheets_cut g symbols n count a b d sheets grid low e h out front =
    let s : Bitmap = front.0 in
    let next = sheeted_more g symbols n sheets s h (sheet_at g symbols n s grid front.1) in
    let all = sheeted_all g symbols (n + 1) count (sheets ++ s ∷ []) grid (omega arith) next in (
      (sheets ++ s ∷ []) ++ all.others,
      are_sheets g symbols count ((sheets ++ s ∷ []) ++ all.others) e all.all,
      took_sheet a b d sheets all.others s out front.2,
    )

-- one sheet more went out
pub sheets_more : (g : Cells) (symbols : List Drawn) (n : ℕ) (a b d : Option (List ℕ)) (sheets : List Bitmap) (s : Bitmap) → IsGrid g
    → Sheeted g symbols n sheets → IsSheet (sheet_labels g symbols n) g 0 s
    → Appends a b (pbm_of sheets) → Appends b d (image s) → Sheeted g symbols (n + 1) (sheets ++ s ∷ []) × Appends a d (pbm_of (sheets ++ s ∷ []))
sheets_more g symbols n a b d sheets s grid h drawn out more =
    (sheeted_more g symbols n sheets s h (sheet_at g symbols n s grid drawn), wrote_sheet a b d sheets s out more)

-- the sheets went out
pub sheets_out : (g : Cells) (symbols : List Drawn) (n : ℕ) (a b : Option (List ℕ)) (sheets : List Bitmap) → n ≡ sheet_count g (length symbols)
    → Sheeted g symbols n sheets → Appends a b (pbm_of sheets)
    → (sheets : List Bitmap) × AreSheets symbols g sheets × Appends a b (pbm_of sheets)
sheets_out g symbols n a b sheets e h out = (sheets, are_sheets g symbols n sheets e h, out)

-- no labels fill no sheet
pub no_sheets : (g : Cells) → IsGrid g → sheet_count g 0 ≡ 0
no_sheets g grid = none (cell_count g) (some g.columns g.rows grid.columns_least grid.rows_least)
  where
    some : (a b : ℕ) → 1 ≤ a → 1 ≤ b → 1 ≤ a * b
    some a b h k = grind arith

    none : (n : ℕ) → 1 ≤ n → (0 + (n - 1)) / n ≡ 0
    none n h = (let e : 0 + (n - 1) ≡ 0 * n + (n - 1) = omega arith in ap (λ k. k / n) e) ∙ div-mul-add 0 n (n - 1) (omega arith)
