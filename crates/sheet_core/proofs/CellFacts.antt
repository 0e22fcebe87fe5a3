-- A bar row of a cell, as runs.
use Rattle.std.proofs.Common.{◌≡◌, ℕ, zero, suc, ◌+◌, ◌-◌, ◌*◌, ◌/◌, ◌%◌, ◌<◌, ◌≤◌, ◌&&◌, Bool, true, false, not, List, [], ◌∷◌, ◌++◌, length, map, sum, replicate, refl, sym, ap, ap₂, ◌∙◌, inl, inr, get_or, arith}
use Rattle.std.proofs.Math.Nat.{mul-add-div}
use Rattle.std.proofs.lemmas.Bool.{cases_lt, le-leb, lt-leb}
use Rattle.std.proofs.lemmas.Nat.{div_below}
use Rattle.std.proofs.lemmas.List.{length-append, length-replicate, length-map, get_or_append_left, get_or-append_right, get_or-replicate, ext_get_or, get_or_past}
use Rattle.std.proofs.lemmas.List.Sums.{sum_by_push, sum_by-cons}
use Rattle.std.proofs.lemmas.List.FromFn.{length-map-range_with_len, get_or-map-range_with_len}
use Rattle.scan_core.specs.Row.{dots_from, dots_of}
pub use Rattle.scan_core.specs.inner.Cutting.{colour}
pub use Rattle.scan_core.proofs.DotFacts.{colour_more, dots_from-push}
use Rattle.sheet_core.specs.Drawing.{bar_dot, bar_dots}
use Rattle.sheet_core.specs.Grids.{Cells}
use Rattle.sheet_core.specs.Labels.{Drawn, FitsCell}

-- the runs of a bar row of a cell
abbrev pub cell_runs : Cells → Drawn → List ℕ
cell_runs g s =
    s.quiet_left * g.dots ∷ (map (λ m. g.dots * m) s.modules ++ (g.width - (s.quiet_left + sum s.modules) * g.dots) ∷ [])

pub sum-cons : (w : ℕ) (ws : List ℕ) → sum (w ∷ ws) ≡ w + sum ws
sum-cons w ws = sum_by-cons (λ x. x) w ws

pub length-dots_from : (dark : Bool) (ws : List ℕ) → length (dots_from dark ws) ≡ sum ws
length-dots_from dark [] = refl
length-dots_from dark (w ∷ ws) =
    length-append (replicate w dark) (dots_from (not dark) ws) ∙ ap₂ (λ a b. a + b) (length-replicate w dark) (length-dots_from (not dark) ws)
    ∙ sym (sum-cons w ws)

-- each run k times as wide
pub wider : (k : ℕ) → 0 < k → (dark : Bool) (ms : List ℕ) (j : ℕ) → get_or (dots_from dark (map (λ m. k * m) ms)) j false
    ≡ get_or (dots_from dark ms) (j / k) false
wider k pos dark [] j = refl
wider k pos dark (m ∷ ms) j =
    let wide = length-replicate (k * m) dark in
    let narrow = length-replicate m dark in
    elim (cases_lt j (k * m)) [
      | inl low ↦
          let below : j / k < m = div_below j k m pos (grind arith) in
          get_or_append_left (replicate (k * m) dark) (dots_from (not dark) (map (λ m. k * m) ms)) false j (omega arith)
          ∙ get_or-replicate (k * m) j dark false low
          ∙ sym (get_or-replicate m (j / k) dark false below)
          ∙ sym (get_or_append_left (replicate m dark) (dots_from (not dark) ms) false (j / k) (omega arith))
      | inr high ↦
          let split : j / k ≡ m + (j - k * m) / k = ap (λ n. n / k) (let e : j ≡ k * m + (j - k * m) = omega arith in e) ∙ mul-add-div pos m (j - k * m) in
          let above : m ≤ j / k = omega arith in
          let rest : j / k - m ≡ (j - k * m) / k = omega arith in
          get_or-append_right (replicate (k * m) dark) (dots_from (not dark) (map (λ m. k * m) ms)) (k * m) j false wide high
          ∙ wider k pos (not dark) ms (j - k * m)
          ∙ ap (λ n. get_or (dots_from (not dark) ms) n false) (sym rest)
          ∙ sym (get_or-append_right (replicate m dark) (dots_from (not dark) ms) m (j / k) false narrow above)
    ]

pub sum-wider : (k : ℕ) (ms : List ℕ) → sum (map (λ m. k * m) ms) ≡ k * sum ms
sum-wider k [] = omega arith
sum-wider k (m ∷ ms) =
    let rest = sum-wider k ms in let e : k * (m + sum ms) ≡ k * m + k * sum ms = grind arith in
    sum-cons (k * m) (map (λ m. k * m) ms) ∙ ap (λ n. k * m + n) rest ∙ sym e ∙ ap (λ n. k * n) (sym (sum-cons m ms))

-- light dots at the end are as none
pub light_end : (xs : List Bool) (n j : ℕ) → get_or (xs ++ replicate n false) j false ≡ get_or xs j false
light_end [] n j =
    elim (cases_lt j n) [
      | inl low ↦ get_or-replicate n j false false low
      | inr high ↦ get_or_past (replicate n false) j false
          (let l = length-replicate n false in omega arith)
    ]
light_end (x ∷ xs) n zero = refl
light_end (x ∷ xs) n (suc j) = light_end xs n j

pub odd_dark : (n : ℕ) → n % 2 ≡ 1 → colour true n ≡ false
odd_dark zero e = absurd (omega arith)
odd_dark (suc zero) e = refl
odd_dark (suc (suc n)) e = odd_dark n (omega arith)

-- how far a symbol reaches into its cell
pub reach : (g : Cells) (s : Drawn) → FitsCell g s → (s.quiet_left * g.dots + (g.dots * sum s.modules + (g.width - (s.quiet_left + sum s.modules) * g.dots))
    ≡ g.width)
    × (s.quiet_right * g.dots ≤ g.width - (s.quiet_left + sum s.modules) * g.dots)
reach g s fits =
    let N = sum s.modules in
    let all : (s.quiet_left + N + s.quiet_right) * g.dots ≡ s.quiet_left * g.dots + g.dots * N + s.quiet_right * g.dots = grind arith in
    let front : (s.quiet_left + N) * g.dots ≡ s.quiet_left * g.dots + g.dots * N = grind arith in
    (omega arith, omega arith)

pub sum-cell_runs : (g : Cells) (s : Drawn) → FitsCell g s → sum (cell_runs g s) ≡ g.width
sum-cell_runs g s fits =
    let bars : List ℕ = map (λ m. g.dots * m) s.modules in
    let end : ℕ = g.width - (s.quiet_left + sum s.modules) * g.dots in
    sum-cons (s.quiet_left * g.dots) (bars ++ end ∷ [])
    ∙ ap (λ n. s.quiet_left * g.dots + n) (sum_by_push (λ x. x) bars end ∙ ap (λ n. n + end) (sum-wider g.dots s.modules))
    ∙ (reach g s fits).0

pub printed_runs : (g : Cells) (s : Drawn) → 0 < g.dots → length s.modules % 2 ≡ 1 → FitsCell g s → dots_of (cell_runs g s) ≡ bar_dots g s
printed_runs g s pos odd fits =
    let start : ℕ = s.quiet_left * g.dots in
    let bars : List ℕ = map (λ m. g.dots * m) s.modules in
    let end : ℕ = g.width - (s.quiet_left + sum s.modules) * g.dots in
    let lights = length-replicate start false in
    let count : length (dots_of (cell_runs g s)) ≡ g.width = length-dots_from false (cell_runs g s) ∙ sum-cell_runs g s fits in
    let other : length (bar_dots g s) ≡ g.width = length-map-range_with_len (bar_dot g s) 0 g.width in
    let tail : dots_from true (bars ++ end ∷ []) ≡ dots_from true bars ++ replicate end false =
    dots_from-push true bars end ∙ ap (λ d. dots_from true bars ++ replicate end d)
    (ap (colour true) (length-map s.modules (λ m. g.dots * m)) ∙ odd_dark (length s.modules) odd) in
    ext_get_or false (dots_of (cell_runs g s)) (bar_dots g s) (count ∙ sym other) (λ x h.
    let inside : x < g.width = omega arith in
    let drawn : get_or (bar_dots g s) x false ≡ bar_dot g s x = get_or-map-range_with_len (bar_dot g s) 0 g.width x x false inside (omega arith) in
    elim (cases_lt x start) [
      | inl low ↦
          get_or_append_left (replicate start false) (dots_from true (bars ++ end ∷ [])) false x (omega arith)
          ∙ get_or-replicate start x false false low
          ∙ sym (ap (λ b. b && get_or (dots_from true s.modules) ((x - start) / g.dots) false) (lt-leb start x low))
          ∙ sym drawn
      | inr high ↦
          get_or-append_right (replicate start false) (dots_from true (bars ++ end ∷ [])) start x false lights high
          ∙ ap (λ ds. get_or ds (x - start) false) tail
          ∙ light_end (dots_from true bars) end (x - start)
          ∙ wider g.dots pos true s.modules (x - start)
          ∙ sym (ap (λ b. b && get_or (dots_from true s.modules) ((x - start) / g.dots) false) (le-leb start x high))
          ∙ sym drawn
    ])
