-- A bar row of a printed label shows the label's symbol.
use Rattle.std.proofs.lemmas.Slice.Zip.{AllZip-long}
use Rattle.std.proofs.lemmas.List.Elements.{All-contains, All-replicate}
use Rattle.std.specs.Prelude.{Contains}
use Rattle.std.proofs.Common.{◌≡◌, ℕ, ◌+◌, ◌-◌, ◌*◌, ◌%◌, ◌<◌, ◌≤◌, ◌==◌, true, List, [], ◌∷◌, ◌++◌, Ok, length, map, sum, refl, sym, ap, nat_le, nat_lt, subst, ◌∙◌, get_or, arith, eqb-true, Option, None, replicate, false, Bool}
use Rattle.std.specs.List.{AllZip, AllByRecursion}
use Rattle.std.specs.Prelude.{codes, Some}
use Rattle.std.proofs.lemmas.List.{length-append, length-map, take_at, get_or_push}
use Rattle.std.proofs.lemmas.Bool.{and_parts}
use Rattle.std.proofs.lemmas.Bool.Decides.{nat_tests}
use Rattle.std.proofs.lemmas.Option.{get_or_from_slice_get, slice_get_within, slice_get_past}
use Rattle.ean_code.specs.Widths.{AreWidths}
use Rattle.digits_core.specs.Digits.{ascii_of}
use Rattle.ean_code.specs.Spelling.{IsSpelled}
use Rattle.ean_code.specs.declared.kind.Kind.{Kind}
use Rattle.ean_code.specs.Symbols.{width_count}
use Rattle.ean_code.proofs.AllKinds.{each_kind}
use Rattle.ean_code.specs.declared.reading.Spelled.TheVariants.{Found}
use Rattle.element_core.specs.Elements.{canonical}
use Rattle.code128_code.specs.Coding.{data_values}
use Rattle.code128_code.specs.Laws.{ModulesSay}
use Rattle.code128_code.specs.Symbols.{mod103}
use Rattle.scan_core.specs.declared.carrier.Carrier.{Carrier}
use Rattle.ean_code.specs.Laws.{MeasuresOfKind}
use Rattle.scan_core.specs.Laws.{DotsDetermine, OneAnswer, SymbolMeasures}
use Rattle.scan_core.specs.Row.{IsRow, dots_of, inner}
use Rattle.scan_core.specs.Answers.{IsAnswer, Spells, checked_text, row_text}
use Rattle.scan_core.specs.Showing.{HasSize, IsQuiet, IsRun, IsSymbol, Rounds, Shows, kind_of}
use Rattle.scan_core.specs.Showing.Way.{Forwards}
use Rattle.sheet_core.specs.declared.label.Label.{Label}
use Rattle.sheet_core.specs.Drawing.{ArePrinted, bar_dots, cell_count, is_bar_row}
use Rattle.sheet_core.specs.BarRows.{IsBarRow, label_answer}
use Rattle.sheet_core.specs.Bitmaps.{Bitmap}
use Rattle.sheet_core.specs.Grids.{Cells, IsGrid}
use Rattle.sheet_core.specs.Kinds.{symbology_of}
use Rattle.sheet_core.specs.Labels.{Content, Drawn, FitsCell, IsDrawn, IsLabelSymbol, carrier_of, content_of, content_text, label_kind, label_text}
use Rattle.sheet_core.specs.Labels.Content.{OfElements, OfGtin}
use Rattle.sheet_core.specs.Laws.{BarRowsAnswer, BarRowsShow, DrawnIsRead, EmptyCellsAreBlank}
use Rattle.sheet_core.proofs.AllLabelKinds.{each_label_kind}
use Rattle.sheet_core.proofs.CellFacts.{cell_runs, printed_runs, reach, sum-cell_runs, sum-wider}
use Rattle.sheet_core.proofs.CornerFacts.{empty_row, label_row}
use Rattle.sheet_core.proofs.OneLabelSymbol.{IsSymbolOf, all_at, by_carrier, drawn_at}
use Rattle.sheet_core.proofs.WidthFacts.{code128_widths}

exact : (N k m : ℕ) → 1 ≤ m → m ≤ 4 → IsRun N (k * N) (k * m) m
exact N k m low high =
    let same : k * m * N ≡ m * (k * N) = grind arith in
    record { least = low; most = high; near = omega arith }

rounds_each : (N k : ℕ) (ms : List ℕ) → AreWidths ms → AllZip (IsRun N (k * N)) (map (λ m. k * m) ms) ms
rounds_each N k [] h = tt
rounds_each N k (m ∷ ms) h = (exact N k m h.0.0 h.0.1, rounds_each N k ms h.1)

pub rounds : (k : ℕ) (ms : List ℕ) → AreWidths ms → Rounds (map (λ m. k * m) ms) (sum ms) ms
rounds k ms h = subst (λ W. AllZip (IsRun (sum ms) W) (map (λ m. k * m) ms) ms) (sym (sum-wider k ms)) (rounds_each (sum ms) k ms h)

pub inner-cell_runs : (g : Cells) (s : Drawn) → inner (cell_runs g s) ≡ map (λ m. g.dots * m) s.modules
inner-cell_runs g s =
    let bars : List ℕ = map (λ m. g.dots * m) s.modules in
    let end : ℕ = g.width - (s.quiet_left + sum s.modules) * g.dots in
    let n = length-append bars (end ∷ []) in
    take_at bars (end ∷ []) (length (cell_runs g s) - 2) (omega arith)

times : (a b n : ℕ) → a ≤ b → a * n ≤ b * n
times a b n h = grind arith

quiet : (g : Cells) (s : Drawn) → 5 ≤ s.quiet_left → 5 ≤ s.quiet_right → FitsCell g s → IsQuiet (cell_runs g s) (sum s.modules)
quiet g s left right fits =
    let N = sum s.modules in
    let k = g.dots in
    let end : ℕ = g.width - (s.quiet_left + N) * k in
    let bars : List ℕ = map (λ m. k * m) s.modules in
    let total : sum (inner (cell_runs g s)) ≡ k * N = ap sum (inner-cell_runs g s) ∙ sum-wider k s.modules in
    let l : 5 * k * N ≤ s.quiet_left * k * N = grind arith in
    let r : 5 * k ≤ end = let e = (reach g s fits).1 in let m : 5 * k ≤ s.quiet_right * k = grind arith in omega arith in
    let rn = times (5 * k) end N r in
    let n = length-append bars (end ∷ []) in
    let last : get_or (cell_runs g s) (length (cell_runs g s) - 1) 0 ≡ end =
    get_or_push (s.quiet_left * k ∷ bars) end 0 (length (cell_runs g s) - 1) (omega arith) in
    record {
      left = rw total (let e : 5 * (k * N) ≡ 5 * k * N = grind arith in omega arith);
      right = rw (total, last) (let e : 5 * (k * N) ≡ 5 * k * N = grind arith in omega arith);
    }

-- what is needed of a symbol
record Fit (c : Carrier) (ms : List ℕ) : Type 0 where
  candidate : HasSize (kind_of c) (length ms) (sum ms)
  odd : length ms % 2 ≡ 1
  widths : AreWidths ms
  form : IsSymbol (kind_of c) ms

odd_count : (kind : Option Kind) (n N : ℕ) → HasSize kind n N → n % 2 ≡ 1
odd_count (Some kind) n N h = ap (λ k. k % 2) h.0 ∙ eqb-true _ _ (each_kind (λ k. width_count k % 2 == 1) refl kind)
odd_count None n N h = let k : ℕ = h.0 in let e = h.3 in omega arith

-- the laws of how many widths and modules symbols have
abbrev Measured : Type 0
Measured = SymbolMeasures × MeasuresOfKind

-- what has a symbol's form and widths
formed : MeasuresOfKind → (kind : Option Kind) (content : Content) (ms : List ℕ) → IsSymbolOf kind content ms → IsSymbol kind ms × AreWidths ms
formed measures (Some kind) (OfGtin gtin) ms h = ((h.0, h.1), (measures kind ms h.0 h.1).valid)
formed measures (Some kind) (OfElements listing) ms h = absurd h
formed measures None (OfGtin gtin) ms h = absurd h
formed measures None (OfElements listing) ms h =
    let text : List ℕ = canonical listing.list in
    let values : List ℕ = data_values text in
    ((105, values, mod103 105 values, h.drawn), code128_widths 105 (mod103 105 values) values ms h.drawn)

fit : Measured → (label : Label) (ms : List ℕ) → IsLabelSymbol label ms → Fit (carrier_of label) ms
fit measures label ms h =
    let c : Carrier = carrier_of label in
    let f = formed measures.1 (kind_of c) (content_of label) ms (by_carrier label ms h) in
    let m = measures.0 c ms f.0 in
    record { candidate = m; odd = odd_count (kind_of c) (length ms) (sum ms) m; widths = f.1; form = f.0 }

-- quiet zones are at least five modules
zones : (label : Label) (s : Drawn) → IsDrawn label s → (5 ≤ s.quiet_left) × (5 ≤ s.quiet_right)
zones label s h =
    let left : nat_le 5 (symbology_of (label_kind label)).quiet_left ≡ true =
    each_label_kind (λ k. nat_le 5 (symbology_of k).quiet_left) refl (label_kind label) in
    let right : nat_le 5 (symbology_of (label_kind label)).quiet_right ≡ true =
    each_label_kind (λ k. nat_le 5 (symbology_of k).quiet_right) refl (label_kind label) in
    let l = h.left in let r = h.right in (grind (arith, nat_tests), grind (arith, nat_tests))

-- runs of an odd number of widths, each with a dot, in a cell
cell_row : (g : Cells) (s : Drawn) → 0 < g.dots → g.width ≤ 4096 → length s.modules % 2 ≡ 1 → AreWidths s.modules → FitsCell g s → IsRow (cell_runs g s)
cell_row g s pos small odd widths fits =
    let bars : List ℕ = map (λ m. g.dots * m) s.modules in
    let end : ℕ = g.width - (s.quiet_left + sum s.modules) * g.dots in
    let n = length-append bars (end ∷ []) in
    let count = length-map s.modules (λ m. g.dots * m) in
    record {
      odd_number = omega arith;
      each_inner = subst (AllByRecursion (λ w. 1 ≤ w)) (sym (inner-cell_runs g s)) (wide g.dots pos s.modules widths);
      at_most = let t = sum-cell_runs g s fits in omega arith;
    }
  where
    times_left : (k m : ℕ) → 1 ≤ k → 1 ≤ m → 1 ≤ k * m
    times_left k m h l = grind arith

    wide : (k : ℕ) → 0 < k → (ms : List ℕ) → AreWidths ms → AllByRecursion (λ w. 1 ≤ w) (map (λ m. k * m) ms)
    wide k pos [] h = tt
    wide k pos (m ∷ ms) h = (times_left k m pos h.0.0, wide k pos ms h.1)

-- a row with the dots of a bar row of a label's cell shows the label's symbol
pub printed_shows : DotsDetermine → Measured → (g : Cells) (label : Label) (s : Drawn) (runs : List ℕ) → IsGrid g → IsDrawn label s → FitsCell g s
    → IsRow runs → dots_of runs ≡ bar_dots g s → Shows runs (carrier_of label) Forwards s.modules
printed_shows one_row measures g label s runs grid drawn fits row dots =
    let ms : List ℕ = s.modules in
    let f = fit measures label ms drawn.symbol in
    let z = zones label s drawn in
    let some = grid.dots_least in let few = grid.width_most in
    let printed : IsRow (cell_runs g s) = cell_row g s (omega arith) (omega arith) f.odd f.widths fits in
    let same : cell_runs g s ≡ runs = one_row (cell_runs g s) runs printed row (printed_runs g s (omega arith) f.odd fits ∙ sym dots) in
    let inside = inner-cell_runs g s in
    let shown : Shows (cell_runs g s) (carrier_of label) Forwards ms = record {
      N = sum ms;
      candidate = subst (λ n. HasSize (kind_of (carrier_of label)) n (sum ms)) (sym (ap length inside ∙ length-map ms (λ m. g.dots * m))) f.candidate;
      quiet = quiet g s z.0 z.1 fits;
      rounds = subst (λ xs. Rounds xs (sum ms) ms) (sym inside) (rounds g.dots ms f.widths);
      form = f.form;
    } in
    subst (λ rs. Shows rs (carrier_of label) Forwards ms) same shown

-- a row through bars is one of the cell's rows
below_top : (g : Cells) (y : ℕ) → is_bar_row g y ≡ true → y < g.height
below_top g y bar =
    let low = (and_parts (nat_le g.dots y) (nat_lt (y + g.dots) g.height) bar).1 in
    grind (arith, nat_tests)

-- what is drawn of the label of a row through bars, and that the row has its dots
record FoundOf (g : Cells) (label : Label) (row : List ℕ) : Type 0 where
  s : Drawn
  drawn : IsDrawn label s
  fits : FitsCell g s
  dots : dots_of row ≡ bar_dots g s

found_of : (labels : List Label) (g : Cells) (sheets : List Bitmap) (label : Label) (row : List ℕ) → ArePrinted labels g sheets
    → IsBarRow labels g sheets label row
    → FoundOf g label row
found_of labels g sheets label row printed bar =
    let grid = printed.grid in
    let place : ℕ = bar.sheet * cell_count g + bar.cell in
    let found = slice_get_within labels place label bar.label_is in
    let d = drawn_at labels printed.symbols place label printed.drawn found (sym (get_or_from_slice_get labels place label label bar.label_is)) in
    let columns = grid.columns_least in
    let top = below_top g bar.y bar.through_bars in
    let cells = label_row printed.symbols g bar.sheet bar.bitmap bar.cell bar.y d.s (printed.shown.each bar.sheet bar.bitmap bar.sheet_is) (omega arith)
    bar.cell_is top bar.through_bars d.here in
    record { s = d.s; drawn = d.drawn; fits = all_at (FitsCell g) printed.symbols place d.s printed.fit d.here; dots = bar.dots ∙ cells }

pub bar_rows_show : DotsDetermine → Measured → BarRowsShow
bar_rows_show one_row measures labels g sheets label row printed bar =
    let d = found_of labels g sheets label row printed bar in
    (d.s.modules, d.drawn.symbol, printed_shows one_row measures g label d.s row printed.grid d.drawn d.fits bar.row_is d.dots)

-- the symbol of a GTIN spells its text
found_spells : (kind : Kind) (ms gtin : List ℕ) → IsSpelled kind ms (Found gtin) → Spells (Some kind) ms (Ok (codes "01" ++ ascii_of gtin))
found_spells kind ms gtin a =
    let right : Ok (codes "01" ++ ascii_of gtin) ≡ checked_text gtin = rw a.3 refl in
    (a.0, a.1, right ∙ ap checked_text a.2)

-- a symbol that says a content spells its text
content_spelled : ModulesSay → (kind : Option Kind) (content : Content) (ms : List ℕ) → IsSymbolOf kind content ms → Spells kind ms (Ok (content_text content))
content_spelled say (Some kind) (OfGtin gtin) ms h = found_spells kind ms gtin h
content_spelled say (Some kind) (OfElements listing) ms h = absurd h
content_spelled say None (OfGtin gtin) ms h = absurd h
content_spelled say None (OfElements listing) ms h =
    let text : List ℕ = canonical listing.list in
    let values : List ℕ = data_values text in
    (105, values, mod103 105 values, h.drawn, ap row_text (sym ((say 105 (mod103 105 values) values ms text h.drawn).1 h.says)))

-- a label's symbol spells its text
spelled : ModulesSay → (label : Label) (ms : List ℕ) → IsLabelSymbol label ms → Spells (kind_of (carrier_of label)) ms (Ok (label_text label))
spelled say label ms h = content_spelled say (kind_of (carrier_of label)) (content_of label) ms (by_carrier label ms h)

pub drawn_is_read : DotsDetermine → Measured → ModulesSay → OneAnswer → DrawnIsRead
drawn_is_read one_row measures say one g label s row year list said grid drawn fits is dots elements =
    let shown = printed_shows one_row measures g label s row grid drawn fits is dots in
    let read : IsAnswer row year (label_answer label year list) =
    (label_text label, (Forwards, s.modules, shown, spelled say label s.modules drawn.symbol), refl, elements) in
    (λ h. one row year said (label_answer label year list) is h read, λ e. subst (IsAnswer row year) (sym e) read)

pub bar_rows_answer : DotsDetermine → Measured → ModulesSay → OneAnswer → BarRowsAnswer
bar_rows_answer one_row measures say one labels g sheets label row year list said printed bar elements =
    let d = found_of labels g sheets label row printed bar in
    drawn_is_read one_row measures say one g label d.s row year list said printed.grid d.drawn d.fits bar.row_is d.dots elements

pub empty_cells_are_blank : EmptyCellsAreBlank
empty_cells_are_blank labels g sheets i cell y sheet runs year printed at within low past dots dark =
    let grid = printed.grid in
    let columns = grid.columns_least in
    let long = AllZip-long IsDrawn labels printed.symbols printed.drawn in
    let none = slice_get_past printed.symbols (i * cell_count g + cell) (omega arith) in
    let light = dots ∙ empty_row printed.symbols g i sheet cell y (printed.shown.each i sheet at) (omega arith) within low none in
    let found : Contains (replicate g.width false) true = subst (λ ds. Contains ds true) light dark in
    let wrong : true ≡ false = All-contains (λ (d : Bool). d ≡ false) (replicate g.width false) true
    (All-replicate (λ (d : Bool). d ≡ false) g.width false refl) found in
    absurd cc
