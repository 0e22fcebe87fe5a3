-- The image of the sheet of one label.
use Rattle.std.proofs.Common.{◌≡◌, ◌∙◌, ◌+◌, ◌-◌, ◌*◌, ◌/◌, ◌<◌, ◌≤◌, ℕ, zero, suc, List, [], ◌∷◌, ◌++◌, Some, ap, ap₂, arith, drop, length, length-append, refl, subst, sym, take}
use Rattle.std.specs.Prelude.{slice_get}
use Rattle.std.proofs.lemmas.List.{append-nil, take_all}
use Rattle.std.proofs.lemmas.Slice.Zip.{AllZip-long}
use Rattle.digits_core.specs.Buffers.{IsPut, pasted}
use Rattle.sheet_core.specs.Bitmaps.{Bitmap}
use Rattle.sheet_core.specs.Drawing.{ArePrinted, IsSheet, cell_count, sheet_count}
use Rattle.sheet_core.specs.Grids.{Cells, IsGrid}
use Rattle.sheet_core.specs.Labels.{Drawn, IsDrawn}
use Rattle.sheet_core.specs.inner.Lines.{IsBarLine, band, row_labels}
use Rattle.sheet_core.specs.pbm.Headers.{header_text}
use Rattle.sheet_core.specs.pbm.Images.{pbm_of}
use Rattle.sheet_core.specs.declared.label.Label.{Label}
use Rattle.sheet_core.proofs.BandFacts.{Banded, band_long, banded_more, banded_none}
use Rattle.sheet_core.proofs.OneLabelSymbol.{Printed}
use Rattle.sheet_core.proofs.SheetFacts.{sheet_of}

-- the symbols of the first row of cells, where there are no more
first_row : (g : Cells) (symbols : List Drawn) → length symbols ≤ g.columns → row_labels g symbols 0 ≡ symbols
first_row g symbols few = ap (λ k. take g.columns (drop k symbols)) (let e : 0 * g.columns ≡ 0 = omega arith in e) ∙ take_all g.columns symbols few

-- one sheet holds one label
one_sheet : (g : Cells) → g.columns ≡ 1 → g.rows ≡ 1 → sheet_count g 1 ≡ 1
one_sheet g columns rows =
    let cells : cell_count g ≡ 1 = ap₂ (λ a b. a * b) columns rows in
    ap (λ n. (1 + (n - 1)) / n) cells

-- the header and the dot rows of a sheet of one row of cells
abbrev pub image_bytes : Cells → List ℕ → List ℕ
image_bytes g line = header_text (g.columns * g.width) (g.rows * g.height) ++ band g line

-- they are the image of the sheet of the label
pub image_of_label : (g : Cells) (label : Label) (p : Printed g (label ∷ [])) (line : List ℕ) → IsGrid g → g.columns ≡ 1 → g.rows ≡ 1
    → IsBarLine g p.symbols line
    → (sheets : List Bitmap) × ArePrinted (label ∷ []) g sheets × (pbm_of sheets ≡ image_bytes g line)
image_of_label g label p line grid columns rows drawn =
    let long : length p.symbols ≡ 1 = AllZip-long IsDrawn (label ∷ []) p.symbols p.drawn in
    let here : IsBarLine g (row_labels g p.symbols 0) line = subst (λ ss. IsBarLine g ss line) (sym (first_row g p.symbols (omega arith))) drawn in
    let one : Banded g p.symbols 1 (band g line) = banded_more g p.symbols 0 [] (band g line) line (banded_none g p.symbols [] refl) here refl in
    let s : Bitmap = record { width = g.columns * g.width; height = g.rows * g.height; bytes = band g line } in
    let sheet : IsSheet p.symbols g 0 s = sheet_of g p.symbols (band g line) grid (subst (λ n. Banded g p.symbols n (band g line)) (sym rows) one) in (
      s ∷ [],
      record {
        grid = grid;
        symbols = p.symbols;
        drawn = p.drawn;
        fit = p.fit;
        shown = record {
          count = sym (ap (sheet_count g) long ∙ one_sheet g columns rows);
          each = only g p.symbols s sheet;
        };
      },
      append-nil (image_bytes g line),
    )
  where
    only : (g : Cells) (symbols : List Drawn) (s : Bitmap) → IsSheet symbols g 0 s → (i : ℕ) (t : Bitmap) → slice_get (s ∷ []) i ≡ Some t
        → IsSheet symbols g i t
    only g symbols s sheet zero t at = subst (IsSheet symbols g 0) (let e : s ≡ t = cc in e) sheet
    only g symbols s sheet (suc i) t at = absurd cc

-- how many bytes they are
pub image_long : (g : Cells) (header line : List ℕ) (count : ℕ) → IsGrid g → g.rows ≡ 1 → header ≡ header_text (g.columns * g.width) (g.rows * g.height)
    → count ≡ length header + g.rows * g.height * length line → count ≡ length (image_bytes g line)
image_long g header line count grid rows head e =
    let fits : 2 * g.dots ≤ g.height = let f = grid.height_least in omega arith in
    let high : g.rows * g.height ≡ g.height = ap (λ n. n * g.height) rows ∙ omega arith in
    e ∙ ap₂ (λ h n. length h + n * length line) head high ∙ ap (λ n. length (header_text (g.columns * g.width) (g.rows * g.height)) + n)
    (sym (band_long g line fits))
    ∙ sym (length-append (header_text (g.columns * g.width) (g.rows * g.height)) (band g line))

-- bytes at the front of a buffer that has room for them
pub put_whole : (bytes old new : List ℕ) (count : ℕ) → count ≡ length bytes → count ≤ length old → new ≡ pasted old 0 bytes → IsPut bytes old new count
put_whole bytes old new count size room e = record {
  counted = size;
  front = λ fits. e ∙ ap (λ n. bytes ++ drop n old) (omega arith);
  unchanged = λ short. absurd (omega arith);
}

-- and a buffer that has none
pub put_none : (bytes old : List ℕ) (count : ℕ) → count ≡ length bytes → length old < count → IsPut bytes old old count
put_none bytes old count size short = record {
  counted = size;
  front = λ fits. absurd (omega arith);
  unchanged = λ short. refl;
}
