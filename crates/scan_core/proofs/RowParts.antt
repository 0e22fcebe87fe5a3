-- Parts of a row, and the symbols in them.
use Rattle.std.proofs.Common.{◌≡◌, ◌∙◌, ℕ, zero, suc, ◌+◌, ◌-◌, ◌%◌, ◌<◌, ◌≤◌, Bool, true, false, not, List, [], ◌∷◌, ◌++◌, ap, ap₂, append_assoc, arith, drop, inl, inr, length, length-append, length-drop, length-take, map, refl, replicate, subst, sum, sym, take}
use Rattle.std.specs.List.{range_with_len}
use Rattle.std.proofs.lemmas.Bool.{cases_lt}
use Rattle.std.proofs.lemmas.List.{drop-drop, drop-take, drop_at, length-take-le, take-append-drop, take-take, take_rest}
use Rattle.std.proofs.lemmas.List.FromFn.{length-map-range_with_len}
use Rattle.std.proofs.lemmas.List.Sums.{sum_by-take-drop}
use Rattle.scan_core.specs.Answers.{IsAnswer}
use Rattle.scan_core.specs.Bits.{dot_at, dots_at}
use Rattle.scan_core.specs.Row.{IsRow, dots_from, dots_of}
use Rattle.scan_core.specs.Windows.{IsLeft, IsNextWindow, IsOver, IsSymbolOf, Search, runs_in}
use Rattle.scan_core.specs.declared.answer.Answer.TheVariants.{Read}
use Rattle.scan_core.specs.declared.window.Window.{Window}
use Rattle.scan_core.specs.DotRuns.{runs_of_dots}
use Rattle.scan_core.specs.inner.FirstRuns.{AreFirst}
use Rattle.scan_core.specs.inner.Parts.{IsPart, shifted}
use Rattle.scan_core.specs.declared.dot_symbols.Section.{Section}
use Rattle.scan_core.specs.declared.dots.FirstRuns.{FirstRuns}
use Rattle.scan_core.specs.inner.Cutting.{colour}
use Rattle.scan_core.proofs.DotFacts.{dots_determine, even_colour}
use Rattle.scan_core.proofs.FirstFacts.{front_le}
use Rattle.scan_core.proofs.RunsOfDots.{length-dots_from, runs_of_row}
use Rattle.element_core.specs.Terms.{Terms}
use Rattle.scan_core.proofs.WindowFacts.{IsRow-runs_in, length-runs_in, window_counts}

-- ---- the symbols of this many runs of a row, from a light run on

-- a window of them
runs_in-runs_in : (runs : List ℕ) (before n first count : ℕ) → first + count ≤ n
    → runs_in (runs_in runs before n) first count ≡ runs_in runs (before + first) count
runs_in-runs_in runs before n first count within =
    let m = n - first in
    let whole : n ≡ first + m = omega arith in
    ap (λ k. take count (drop first (take k (drop before runs)))) whole
    ∙ ap (take count) (drop-take first m (drop before runs))
    ∙ take-take count m (drop first (drop before runs)) (omega arith)
    ∙ ap (take count) (drop-drop first before runs)

module _ (runs : List ℕ) (year : Terms) (before n : ℕ) (light : before % 2 ≡ 0) (within : before + n ≤ length runs) where
  long : length (runs_in runs before n) ≡ n
  long = length-runs_in runs before n within

  to_row : (w : Window) → IsSymbolOf (runs_in runs before n) year w → IsSymbolOf runs year (shifted before w)
  to_row w s =
      let inside = s.within in
      let first = s.begins_light in
      let fits = long in
      record {
        begins_light = omega arith;
        ends_light = s.ends_light;
        within = omega arith;
        read = subst (λ ws. IsAnswer ws year (Read w.carrier w.elements)) (runs_in-runs_in runs before n w.first w.count (omega arith)) s.read;
      }

  -- the same window, told in the part
  abbrev back : Window → Window
  back v = record { first = v.first - before; count = v.count; carrier = v.carrier; elements = v.elements }

  from_row : (v : Window) → IsSymbolOf runs year v → before ≤ v.first → v.first + v.count ≤ before + n
      → IsSymbolOf (runs_in runs before n) year (back v)
  from_row v s behind inside =
      let first = s.begins_light in
      let fits = long in
      let same : before + (v.first - before) ≡ v.first = omega arith in
      record {
        begins_light = omega arith;
        ends_light = s.ends_light;
        within = omega arith;
        read = subst (λ ws. IsAnswer ws year (Read v.carrier v.elements))
            (ap (λ k. runs_in runs k v.count) (sym same) ∙ sym (runs_in-runs_in runs before n (v.first - before) v.count (omega arith))) s.read;
      }

  -- what is left in the row is left in the part
  left_back : (first least : ℕ) (v : Window) → IsLeft (record { runs = runs; year = year; first = before + first; least = least }) v
      → (before ≤ v.first) × IsLeft (record { runs = runs_in runs before n; year = year; first = first; least = least }) (back v)
  left_back first least v left = elim left [
    | inl more ↦ (omega arith, inl (omega arith))
    | inr same ↦ let here = same.0 in (omega arith, inr (omega arith, same.1))
  ]

  -- the next symbol of the part is the next of the row, where those that would come before it lie in the part
  pub next_of_row : (first least : ℕ) (w : Window) → IsNextWindow (record { runs = runs_in runs before n; year = year; first = first; least = least }) w
      → ((v : Window) → IsSymbolOf runs year v → v.first ≤ before + w.first → v.first + v.count ≤ before + n)
      → IsNextWindow (record { runs = runs; year = year; first = before + first; least = least }) (shifted before w)
  next_of_row first least w next reach = record {
    symbol = to_row w next.symbol;
    left = elim next.left [
      | inl more ↦ inl (omega arith)
      | inr same ↦ let here = same.0 in inr (omega arith, same.1)
    ];
    none_before = λ v s left earlier.
        let here = left_back first least v left in
        elim earlier [
          | inl less ↦ next.none_before (back v) (from_row v s here.0 (reach v s (omega arith))) here.1 (let from = here.0 in inl (omega arith))
          | inr same ↦
              let first = same.0 in
              next.none_before (back v) (from_row v s here.0 (reach v s (omega arith))) here.1 (let from = here.0 in inr (omega arith, same.1))
        ];
  }

  -- a symbol of the row that is left and lies in the part is left there
  pub in_part : (first least : ℕ) (v : Window) → IsSymbolOf runs year v
      → IsLeft (record { runs = runs; year = year; first = before + first; least = least }) v → v.first + v.count ≤ before + n
      → (u : Window) × IsSymbolOf (runs_in runs before n) year u
      × IsLeft (record { runs = runs_in runs before n; year = year; first = first; least = least }) u × (v.first ≡ before + u.first)
  in_part first least v s left inside =
      let here = left_back first least v left in
      let from = here.0 in
      (back v, from_row v s here.0 inside, here.1, omega arith)

-- ---- the dots of a part

dots_from-append : (dark : Bool) (xs ys : List ℕ) → dots_from dark (xs ++ ys) ≡ dots_from dark xs ++ dots_from (colour dark (length xs)) ys
dots_from-append dark [] ys = refl
dots_from-append dark (x ∷ xs) ys =
    ap (λ ds. replicate x dark ++ ds) (dots_from-append (not dark) xs ys)
    ∙ sym (append_assoc (replicate x dark) (dots_from (not dark) xs) (dots_from (colour (not dark) (length xs)) ys))

drop-range : (f : ℕ → Bool) (k a m n b : ℕ) → n ≡ k + m → b ≡ a + k → drop k (map f (range_with_len a n)) ≡ map f (range_with_len b m)
drop-range f zero a m n b e g =
    let count : n ≡ m = omega arith in let from : a ≡ b = omega arith in ap₂ (λ i j. map f (range_with_len i j)) from count
drop-range f (suc k) a m zero b e g = absurd (omega arith)
drop-range f (suc k) a m (suc n) b e g = drop-range f k (a + 1) m n b (omega arith) (omega arith)

pub length-dots_at : (bits : List ℕ) (from width : ℕ) → length (dots_at bits from width) ≡ width
length-dots_at bits from width = length-map-range_with_len (dot_at bits) from width

-- the runs of a row from a light one on are a row
pub row_from : (runs : List ℕ) (before : ℕ) → IsRow runs → before % 2 ≡ 0 → before < length runs → IsRow (drop before runs)
row_from runs before row light within =
    let odd = row.odd_number in
    subst IsRow (take_rest runs before) (IsRow-runs_in runs before (length runs - before) row (omega arith) (omega arith))

-- and their dots are those from its first on
pub rest_dots : (bits runs : List ℕ) (width before at : ℕ) → dots_of runs ≡ dots_at bits 0 width → before % 2 ≡ 0 → before < length runs
    → at ≡ sum (take before runs) → (at ≤ width) × (dots_of (drop before runs) ≡ dots_at bits at (width - at))
rest_dots bits runs width before at dots light within is =
    let front : List ℕ = take before runs in
    let rest : List ℕ = drop before runs in
    let count : length front ≡ before = length-take-le before runs (omega arith) in
    let long : length (dots_of front) ≡ at = length-dots_from false front ∙ sym is in
    let colours : colour false (length front) ≡ false = ap (colour false) count ∙ even_colour false before light in
    let parts : dots_of runs ≡ dots_of front ++ dots_of rest =
    ap dots_of (sym (take-append-drop before runs)) ∙ dots_from-append false front rest ∙ ap (λ d. dots_of front ++ dots_from d rest) colours in
    let all : length (dots_of runs) ≡ width = ap length dots ∙ length-dots_at bits 0 width in
    let both = ap length parts ∙ length-append (dots_of front) (dots_of rest) in
    let few : at ≤ width = omega arith in (
      few,
      sym (drop_at (dots_of front) (dots_of rest) at long) ∙ ap (drop at) (sym parts ∙ dots)
          ∙ drop-range (dot_at bits) at 0 (width - at) width at (omega arith) (omega arith),
    )

-- ---- parts

-- the runs of the row
pub row_of_dots : (bits : List ℕ) (width : ℕ) → width ≤ 65535
    → IsRow (runs_of_dots (dots_at bits 0 width)) × (dots_of (runs_of_dots (dots_at bits 0 width)) ≡ dots_at bits 0 width)
row_of_dots bits width few = let long = length-dots_at bits 0 width in runs_of_row (dots_at bits 0 width) (omega arith)

-- what is cut of the dots from there on is a part
pub part_of : (bits : List ℕ) (width before at : ℕ) (f : FirstRuns) → width ≤ 65535 → before % 2 ≡ 0 → before < length (runs_of_dots (dots_at bits 0 width))
    → at ≡ sum (take before (runs_of_dots (dots_at bits 0 width)))
    → (all : List ℕ) × IsRow all × (dots_of all ≡ dots_at bits at (width - at)) × AreFirst all f
    → IsPart (dots_at bits 0 width) (record { before = before; at = at; runs = f })
part_of bits width before at f few light within is found =
    let dots = dots_at bits 0 width in
    let row = row_of_dots bits width few in
    let rest = rest_dots bits (runs_of_dots dots) width before at row.1 light within is in
    let same : found.0 ≡ drop before (runs_of_dots dots) =
    dots_determine found.0 (drop before (runs_of_dots dots)) found.1 (row_from (runs_of_dots dots) before row.0 light within) (found.2 ∙ sym rest.1) in
    record { light = light; within = within; begins = is; first = subst (λ all. AreFirst all f) same found.3 }

-- the part that begins this many runs further right
pub record Moves (width : ℕ) (runs : List ℕ) (p : Section) : Type 0 where
  pub there : 600 ≡ length (take 600 p.runs.widths.items)
  pub within : p.before + 600 < length runs
  pub begins : p.at + sum (take 600 p.runs.widths.items) ≡ sum (take (p.before + 600) runs)
  pub at_most : p.at + sum (take 600 p.runs.widths.items) ≤ width

pub part_moves : (bits : List ℕ) (width : ℕ) (p : Section) → width ≤ 65535 → IsPart (dots_at bits 0 width) p → p.runs.more ≡ true
    → Moves width (runs_of_dots (dots_at bits 0 width)) p
part_moves bits width p few part more =
    let runs = runs_of_dots (dots_at bits 0 width) in
    let items = p.runs.widths.items in
    let all = drop p.before runs in
    let row = row_of_dots bits width few in
    let long = part.first.cut more in
    let front = part.first.front in
    let behind = part.first.behind more in
    let rest = length-drop p.before runs in
    let same : take 600 items ≡ take 600 all = ap (take 600) front ∙ take-take 600 (length items) all (omega arith) in
    let both = sum_by-take-drop (λ x. x) (take (p.before + 600) runs) p.before in
    let first : take p.before (take (p.before + 600) runs) ≡ take p.before runs = take-take p.before (p.before + 600) runs (omega arith) in
    let next : drop p.before (take (p.before + 600) runs) ≡ take 600 all = drop-take p.before 600 runs in
    let a = ap sum first in
    let b = ap sum next in
    let e = ap sum same in
    let begins = part.begins in
    let within : p.before + 600 < length runs = omega arith in
    let light = part.light in
    let at : p.at + sum (take 600 items) ≡ sum (take (p.before + 600) runs) = omega arith in
    record {
      there = omega (arith, length-take 600 items);
      within = within;
      begins = at;
      at_most = (rest_dots bits runs width (p.before + 600) (p.at + sum (take 600 items)) row.1 (omega arith) within at).0;
    }

-- ---- the symbols of a part of packed dots

odd_count : (more : Bool) (n all : ℕ) → (more ≡ false → n ≡ all) → (more ≡ true → n ≡ 1195) → all % 2 ≡ 1 → n % 2 ≡ 1
odd_count true n all whole cut odd = let e = cut refl in omega arith
odd_count false n all whole cut odd = let e = whole refl in omega arith

reach_end : (more : Bool) (before n all first count last : ℕ) → (more ≡ false → n ≡ all - before) → (more ≡ true → n ≡ 1195) → (more ≡ true → last ≤ 598)
    → first ≤ before + last → count ≤ 597 → first + count ≤ all → before < all → first + count ≤ before + n
reach_end true before n all first count last whole cut early le few within some = let a = cut refl in let b = early refl in omega arith
reach_end false before n all first count last whole cut early le few within some = let a = whole refl in omega arith

module _ (bits : List ℕ) (width : ℕ) (year : Terms) (few : width ≤ 65535) (p : Section) (is : IsPart (dots_at bits 0 width) p) where
  abbrev runs : List ℕ
  runs = runs_of_dots (dots_at bits 0 width)

  abbrev items : List ℕ
  items = p.runs.widths.items

  -- the search of the part, and that of the row
  abbrev here : ℕ → ℕ → Search
  here first least = record { runs = items; year = year; first = first; least = least }

  abbrev there : ℕ → ℕ → Search
  there first least = record { runs = runs; year = year; first = p.before + first; least = least }

  whole_row : IsRow runs
  whole_row = (row_of_dots bits width few).0

  count : p.runs.more ≡ false → length items ≡ length runs - p.before
  count e = is.first.whole e ∙ length-drop p.before runs

  inside : p.before + length items ≤ length runs
  inside =
      let most = front_le (drop p.before runs) items is.first.front in
      let rest = length-drop p.before runs in
      let within = is.within in omega arith

  pub items_row : IsRow items
  items_row =
      let odd = whole_row.odd_number in
      let light = is.light in
      let within = is.within in
      let counted = odd_count p.runs.more (length items) (length runs - p.before) count is.first.cut (omega arith) in
      subst IsRow (sym is.first.front) (IsRow-runs_in runs p.before (length items) whole_row inside counted)

  pub next_in_row : (first least : ℕ) (w : Window) → IsNextWindow (here first least) w → (p.runs.more ≡ true → w.first ≤ 598)
      → IsNextWindow (there first least) (shifted p.before w)
  next_in_row first least w next early =
      next_of_row runs year p.before (length items) is.light inside first least w
      (subst (λ ws. IsNextWindow (record { runs = ws; year = year; first = first; least = least }) w) is.first.front next)
      (λ v s le. reach_end p.runs.more p.before (length items) (length runs) v.first v.count w.first count is.first.cut early le
      (window_counts runs year whole_row v s).1 s.within is.within)

  -- a symbol of the row that is left and ends in the part is left there
  in_here : (first least : ℕ) (v : Window) → IsSymbolOf runs year v → IsLeft (there first least) v → v.first + v.count ≤ p.before + length items
      → (u : Window) × IsSymbolOf items year u × IsLeft (here first least) u × (v.first ≡ p.before + u.first)
  in_here first least v s left ends =
      subst
      (λ ws. (u : Window) × IsSymbolOf ws year u × IsLeft (record { runs = ws; year = year; first = first; least = least }) u
      × (v.first ≡ p.before + u.first))
      (sym is.first.front) (in_part runs year p.before (length items) is.light inside first least v s left ends)

  pub over_in_row : (first least : ℕ) → p.runs.more ≡ false → IsOver (here first least) → IsOver (there first least)
  over_in_row first least last over = λ v s left.
      let n = count last in
      let within = s.within in
      let some = is.within in
      let u = in_here first least v s left (omega arith) in over u.0 u.1 u.2

  pub none_early : (first least : ℕ) → p.runs.more ≡ true
      → ((v : Window) → IsSymbolOf items year v → IsLeft (here first least) v → v.first ≤ 598 → ⊥)
      → (v : Window) → IsSymbolOf runs year v → IsLeft (there first least) v → p.before + 600 ≤ v.first
  none_early first least more none v s left =
      let light = s.begins_light in
      let even = is.light in
      elim (cases_lt (p.before + 598) v.first) [
        | inl late ↦ omega arith
        | inr early ↦
            let n = is.first.cut more in
            let most = (window_counts runs year whole_row v s).1 in
            let u = in_here first least v s left (omega arith) in
            let at = u.3 in absurd (none u.0 u.1 u.2 (omega arith))
      ]
