-- A symbol shows one list of characters, none is one backwards, and its measures.
use Rattle.std.proofs.Common.{◌≡◌, ◌≢◌, ℕ, zero, suc, ◌+◌, ◌-◌, ◌*◌, ◌/◌, ◌<◌, ◌≤◌, true, ◌==◌, List, [], ◌∷◌, ◌++◌, length, take, drop, reverse, refl, sym, ap, ap₂, subst, ◌∙◌, arith, eqb-true, get_or}
use Rattle.std.specs.Prelude.{slice_range, sum}
use Rattle.std.specs.List.{flat_map, AllByRecursion}
use Rattle.std.proofs.lemmas.List.{append_assoc, append-nil, drop-drop, drop_at, length-append, reverse-append, take_at}
use Rattle.std.proofs.lemmas.List.Concat.{flat_map-append}
use Rattle.std.proofs.lemmas.List.Sums.{sum_by-append}
use Rattle.std.proofs.Math.Seq.{take-add}
use Rattle.ean_code.specs.Widths.{AreModules, AreWidths}
use Rattle.ean_code.proofs.Cells.{all_below, all_below-at, AllByRecursion-append, cell_at, cells, cells-flat_map, length-cells}
use Rattle.code128_code.specs.Characters.{pattern, patterns, stop}
use Rattle.code128_code.specs.Laws.{Measures, OneReading, OneWay}
use Rattle.code128_code.specs.Symbols.{AreValues, IsCode128Symbol, characters_of, symbol_widths}
use Rattle.code128_code.proofs.PatternTable.{code, length-pattern, pattern_valid, shown}

-- a fact that holds of each value holds at each place
pub valid_at : (vs : List ℕ) (i : ℕ) → AreValues vs → i < length vs → get_or vs i 0 ≤ 102
valid_at [] i h lt = absurd (omega arith)
valid_at (v ∷ vs) zero h lt = h.0
valid_at (v ∷ vs) (suc i) h lt = valid_at vs i h.1 (omega arith)

pub characters_valid : (vs : List ℕ) → AreValues vs → AllByRecursion (λ v. v < 106) vs
characters_valid [] h = tt
characters_valid (v ∷ vs) h = ((let le = h.0 in omega arith), characters_valid vs h.1)

pub length-data : (vs : List ℕ) → AreValues vs → length (flat_map pattern vs) ≡ length vs * 6
length-data vs h = length-cells _ 6 pattern shown code vs (characters_valid vs h)

-- the widths of a symbol, part by part
pub widths-parts : (s : ℕ) (vs : List ℕ) (c : ℕ) → symbol_widths s vs c ≡ pattern s ++ (flat_map pattern vs ++ (pattern c ++ stop))
widths-parts s vs c =
    let middle : flat_map pattern (vs ++ c ∷ []) ≡ flat_map pattern vs ++ pattern c =
    flat_map-append pattern vs (c ∷ []) ∙ ap (λ ws. flat_map pattern vs ++ ws) (append-nil (pattern c)) in
    ap (λ ws. (pattern s ++ ws) ++ stop) middle
    ∙ append_assoc (pattern s) (flat_map pattern vs ++ pattern c) stop
    ∙ ap (λ ws. pattern s ++ ws) (append_assoc (flat_map pattern vs) (pattern c) stop)

module _ (s : ℕ) (vs : List ℕ) (c : ℕ) (ms : List ℕ) (e : IsCode128Symbol s vs c ms) where
  all_valid : AllByRecursion (λ v. v < 106) (characters_of s vs c)
  all_valid = (
    (let h = e.start_greatest in omega arith),
    AllByRecursion-append _ vs (c ∷ []) (characters_valid vs e.valid)
        ((let h = e.check_valid in omega arith), tt),
  )

  -- each character has six widths, and the stop seven
  pub length-symbol : length ms ≡ length (characters_of s vs c) * 6 + 7
  length-symbol =
      ap length e.widths ∙ length-append (flat_map pattern (characters_of s vs c)) stop
      ∙ ap (λ n. n + 7) (length-cells _ 6 pattern shown code (characters_of s vs c) all_valid)

  pub length-parts : length ms ≡ length vs * 6 + 19
  length-parts = let a = length-symbol in let b = length-append vs (c ∷ []) in omega arith

  characters_shown : cells 6 shown (length (characters_of s vs c)) ms ≡ characters_of s vs c
  characters_shown = ap (cells 6 shown (length (characters_of s vs c))) e.widths ∙ cells-flat_map _ 6 pattern shown code (characters_of s vs c) stop all_valid

  -- a symbol that is turned begins with a turned stop
  turned : take 6 (reverse ms) ≡ 2 ∷ 1 ∷ 1 ∷ 1 ∷ 3 ∷ 3 ∷ []
  turned = ap (λ m. take 6 (reverse m)) e.widths ∙ ap (take 6) (reverse-append (flat_map pattern (characters_of s vs c)) stop)

  parts : ms ≡ pattern s ++ (flat_map pattern vs ++ (pattern c ++ stop))
  parts = e.widths ∙ widths-parts s vs c

  start_six : length (pattern s) ≡ 6
  start_six = length-pattern s (let h = e.start_greatest in omega arith)

  check_six : length (pattern c) ≡ 6
  check_six = length-pattern c (let h = e.check_valid in omega arith)

  pub start_part : take 6 ms ≡ pattern s
  start_part = ap (take 6) parts ∙ take_at (pattern s) (flat_map pattern vs ++ (pattern c ++ stop)) 6 start_six

  begins : shown (take 6 ms) ≡ s
  begins = ap shown start_part ∙ code.back s (let h = e.start_greatest in omega arith)

  after_start : drop 6 ms ≡ flat_map pattern vs ++ (pattern c ++ stop)
  after_start = ap (drop 6) parts ∙ drop_at (pattern s) (flat_map pattern vs ++ (pattern c ++ stop)) 6 start_six

  pub data_part : (n : ℕ) → n ≡ length vs * 6 → take n (drop 6 ms) ≡ flat_map pattern vs
  data_part n same = ap (take n) after_start ∙ take_at (flat_map pattern vs) (pattern c ++ stop) n (length-data vs e.valid ∙ sym same)

  after_data : (n : ℕ) → n ≡ length vs * 6 + 6 → drop n ms ≡ pattern c ++ stop
  after_data n same =
      let split : n ≡ 6 + length vs * 6 = omega arith in
      ap (λ k. drop k ms) split
      ∙ sym (drop-drop (length vs * 6) 6 ms)
      ∙ ap (drop (length vs * 6)) after_start
      ∙ drop_at (flat_map pattern vs) (pattern c ++ stop) (length vs * 6) (length-data vs e.valid)

  pub check_part : (n : ℕ) → n ≡ length vs * 6 + 6 → take 6 (drop n ms) ≡ pattern c
  check_part n same = ap (take 6) (after_data n same) ∙ take_at (pattern c) stop 6 check_six

  pub stop_part : (n : ℕ) → n ≡ length vs * 6 + 12 → drop n ms ≡ stop
  stop_part n same =
      let split : n ≡ (length vs * 6 + 6) + 6 = omega arith in
      ap (λ k. drop k ms) split
      ∙ sym (drop-drop 6 (length vs * 6 + 6) ms)
      ∙ ap (drop 6) (after_data (length vs * 6 + 6) refl)
      ∙ drop_at (pattern c) stop 6 check_six

pub last_same : (xs ys : List ℕ) (x y : ℕ) → xs ++ x ∷ [] ≡ ys ++ y ∷ [] → (xs ≡ ys) × (x ≡ y)
last_same [] [] x y e = (refl, cc)
last_same [] (b ∷ []) x y e = cc
last_same [] (b ∷ (c ∷ ys)) x y e = cc
last_same (a ∷ []) [] x y e = cc
last_same (a ∷ (c ∷ xs)) [] x y e = cc
last_same (a ∷ xs) (b ∷ ys) x y e =
    let tail : xs ++ x ∷ [] ≡ ys ++ y ∷ [] = cc in let head : a ≡ b = cc in
    let rest = last_same xs ys x y tail in (ap₂ (λ h t. h ∷ t) head rest.0, rest.1)

pub one_reading : OneReading
one_reading s t c d vs ws ms e f =
    let a = length-symbol s vs c ms e in let b = length-symbol t ws d ms f in
    let counts : length (characters_of s vs c) ≡ length (characters_of t ws d) = omega arith in
    let both : characters_of s vs c ≡ characters_of t ws d =
    sym (characters_shown s vs c ms e) ∙ ap (λ n. cells 6 shown n ms) counts ∙ characters_shown t ws d ms f in
    let heads : s ≡ t = cc in
    let tails : vs ++ c ∷ [] ≡ ws ++ d ∷ [] = cc in
    let rest = last_same vs ws c d tails in (heads, rest.0, rest.1)

-- a stop read backwards is no character
stop_apart : shown (2 ∷ 1 ∷ 1 ∷ 1 ∷ 3 ∷ 3 ∷ []) ≡ 255
unfolding shown
stop_apart = refl

pub one_way : OneWay
one_way s t c d vs ws ms e f =
    let start = begins t ws d (reverse ms) f in
    let turned_stop = ap shown (turned s vs c ms e) ∙ stop_apart in
    let h = f.start_greatest in omega arith

starts_tested : all_below (λ i. get_or (pattern (103 + i)) 0 0 == 2) 3 ≡ true
unfolding patterns
starts_tested = refl

totals_tested : all_below (λ v. sum (pattern v) == 11) 106 ≡ true
unfolding patterns
totals_tested = refl

total_of : (v : ℕ) → v < 106 → sum (pattern v) ≡ 11
total_of v h = eqb-true _ _ (all_below-at (λ v. sum (pattern v) == 11) 106 totals_tested v h)

sum-append : (xs ys : List ℕ) → sum (xs ++ ys) ≡ sum xs + sum ys
sum-append xs ys = sum_by-append (λ x. x) xs ys

total_of_all : (vs : List ℕ) → AllByRecursion (λ v. v < 106) vs → sum (flat_map pattern vs) ≡ 11 * length vs
total_of_all [] h = refl
total_of_all (v ∷ vs) h =
    let one = total_of v h.0 in let more = total_of_all vs h.1 in let all = sum-append (pattern v) (flat_map pattern vs) in omega arith

first_of : (xs ys : List ℕ) → 0 < length xs → get_or (xs ++ ys) 0 0 ≡ get_or xs 0 0
first_of [] ys some = absurd (omega arith)
first_of (x ∷ xs) ys some = refl

pub measures : Measures
measures s c vs ms e =
    let low = e.start_least in let high = e.start_greatest in let some = e.some in let few = e.few in
    let count = length-parts s vs c ms e in
    let at : 103 + (s - 103) ≡ s = omega arith in
    let bar : get_or (pattern s) 0 0 ≡ 2 =
    subst (λ n. get_or (pattern n) 0 0 ≡ 2) at (eqb-true _ _ (all_below-at (λ i. get_or (pattern (103 + i)) 0 0 == 2) 3 starts_tested (s - 103) (omega arith)))
    in
    let characters : length (characters_of s vs c) ≡ length vs + 2 = (let n = length-append vs (c ∷ []) in omega arith) in
    let total : sum ms ≡ 11 * (length vs + 2) + 13 =
    ap sum e.widths ∙ sum-append (flat_map pattern (characters_of s vs c)) stop
    ∙ ap (λ n. n + 13) (total_of_all (characters_of s vs c) (all_valid s vs c ms e) ∙ ap (λ n. 11 * n) characters) in
    record {
      least = omega arith;
      greatest = omega arith;
      count = omega arith;
      total = total;
      first_bar = ap (λ m. get_or m 0 0) (e.widths ∙ widths-parts s vs c) ∙ first_of (pattern s) _ (omega (arith, length-pattern s (omega arith))) ∙ bar;
      last_bar = ap (λ m. get_or (reverse m) 0 0) e.widths ∙ ap (λ m. get_or m 0 0) (reverse-append (flat_map pattern (characters_of s vs c)) stop);
    }

AreWidths-all : (vs : List ℕ) → AllByRecursion (λ v. v < 106) vs → AreWidths (flat_map pattern vs)
AreWidths-all [] h = tt
AreWidths-all (v ∷ vs) h = AllByRecursion-append _ (pattern v) (flat_map pattern vs) (pattern_valid v h.0) (AreWidths-all vs h.1)

stop_valid : AreWidths stop
stop_valid = (
  (omega arith, omega arith),
  (
    (omega arith, omega arith),
    (
      (omega arith, omega arith),
      (
        (omega arith, omega arith),
        ((omega arith, omega arith), ((omega arith, omega arith), ((omega arith, omega arith), tt))),
      ),
    ),
  ),
)

-- the widths of a symbol are those of modules
pub modules_valid : (s : ℕ) (vs : List ℕ) (c : ℕ) (ms : List ℕ) → IsCode128Symbol s vs c ms → AreModules ms
modules_valid s vs c ms e =
    let few = e.few in let count = length-parts s vs c ms e in (
      omega arith,
      omega arith,
      subst AreWidths (sym e.widths) (AllByRecursion-append _ (flat_map pattern (characters_of s vs c)) stop
          (AreWidths-all (characters_of s vs c) (all_valid s vs c ms e)) stop_valid),
    )

-- ---- data values, character by character

abbrev part_of : List ℕ → ℕ → List ℕ
part_of ws i = slice_range ws (6 * i) (6 * i + 6)

part-taken : (ws : List ℕ) (i : ℕ) → part_of ws i ≡ take 6 (drop (6 * i) ws)
part-taken ws i = let six : (6 * i + 6) - 6 * i ≡ 6 = omega arith in ap (λ n. take n (drop (6 * i) ws)) six

-- widths that are characters are a character at each sixth
pub no_gap : (ws : List ℕ) (i : ℕ) → i < length ws / 6 → ((v : ℕ) → v ≤ 102 → pattern v ≢ part_of ws i) → (vs : List ℕ) → AreValues vs
    → flat_map pattern vs ≢ ws
no_gap ws i lt none vs h e =
    let count : length ws ≡ length vs * 6 = sym (ap length e) ∙ length-data vs h in
    let low : i < length vs = omega arith in
    let cell = cell_at (λ v. v < 106) 6 pattern length-pattern vs i 0 (characters_valid vs h) low in
    none (get_or vs i 0) (valid_at vs i h low) (sym cell ∙ ap (λ m. take 6 (drop (6 * i) m)) e ∙ sym (part-taken ws i))

pub one_more : (ws : List ℕ) (i : ℕ) (found : List ℕ) (v : ℕ) → flat_map pattern found ≡ take (6 * i) ws → pattern v ≡ part_of ws i
    → flat_map pattern (found ++ v ∷ []) ≡ take (6 * (i + 1)) ws
one_more ws i found v e f =
    let next : 6 * (i + 1) ≡ 6 * i + 6 = omega arith in
    flat_map-append pattern found (v ∷ [])
    ∙ ap₂ (λ xs ys. xs ++ ys) e (append-nil (pattern v) ∙ f ∙ part-taken ws i)
    ∙ sym (take-add (6 * i) 6 ws)
    ∙ ap (λ n. take n ws) (sym next)
