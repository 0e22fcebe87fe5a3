-- Windows of a row.
use Rattle.std.proofs.Common.{◌≡◌, ◌∙◌, ℕ, zero, suc, ◌+◌, ◌-◌, ◌*◌, ◌%◌, ◌<◌, ◌≤◌, List, [], ◌∷◌, length, drop, sum, sym, ap, subst, inl, inr, arith, get_or, length-drop, length-take, reverse}
use Rattle.std.specs.List.{AllByRecursion}
use Rattle.std.proofs.Math.Nat.{mul-le-mul_right}
use Rattle.std.proofs.lemmas.Bool.{cases_lt}
use Rattle.std.proofs.lemmas.List.{get_or-drop, get_or-reverse, get_or-take}
use Rattle.std.proofs.lemmas.List.Elements.{AllZip-get_or, length_all_zip}
use Rattle.std.proofs.lemmas.List.Sums.{sum_by-take-le, sum_by-take-drop}
use Rattle.scan_core.specs.declared.carrier.Carrier.{Carrier}
use Rattle.scan_core.specs.declared.window.Window.{Window}
use Rattle.scan_core.specs.Row.{IsRow, inner}
use Rattle.scan_core.specs.Showing.{HasSize, IsRun, Shows, Way, along, kind_of}
use Rattle.scan_core.specs.inner.Searches.{MayEnd}
use Rattle.scan_core.specs.Windows.{IsSymbolOf, runs_in}
use Rattle.scan_core.proofs.CandidateFacts.{candidate_dots, few_runs}
use Rattle.scan_core.proofs.EndFacts.{lying_narrow, may_end}
use Rattle.element_core.specs.Terms.{Terms}
use Rattle.scan_core.proofs.WayFacts.{rounds_lying}

pub each_at : (P : ℕ → Type 0) (ws : List ℕ) → AllByRecursion P ws → (i : ℕ) → i < length ws → P (get_or ws i 0)
each_at P [] each i low = absurd (omega arith)
each_at P (w ∷ ws) each zero low = each.0
each_at P (w ∷ ws) each (suc i) low = each_at P ws each.1 i (omega arith)

pub each_by : (P : ℕ → Type 0) (ws : List ℕ) → ((i : ℕ) → i < length ws → P (get_or ws i 0)) → AllByRecursion P ws
each_by P [] at = tt
each_by P (w ∷ ws) at = (at 0 (omega arith), each_by P ws (λ i low. at (suc i) (omega arith)))

pub length-inner : (ws : List ℕ) → length (inner ws) ≡ length ws - 2
length-inner ws = omega (arith, length-take (length ws - 2) (drop 1 ws), length-drop 1 ws)

pub inner-at : (ws : List ℕ) (i : ℕ) → i + 2 < length ws → get_or (inner ws) i 0 ≡ get_or ws (1 + i) 0
inner-at ws i low = get_or-take (length ws - 2) (drop 1 ws) i 0 (omega arith) ∙ get_or-drop 1 ws i 0

-- ---- the runs of a window

pub length-runs_in : (runs : List ℕ) (first count : ℕ) → first + count ≤ length runs → length (runs_in runs first count) ≡ count
length-runs_in runs first count within = omega (arith, length-take count (drop first runs), length-drop first runs)

pub runs_in-at : (runs : List ℕ) (first count i : ℕ) → i < count → get_or (runs_in runs first count) i 0 ≡ get_or runs (first + i) 0
runs_in-at runs first count i low = get_or-take count (drop first runs) i 0 low ∙ get_or-drop first runs i 0

-- they are a row
pub IsRow-runs_in : (runs : List ℕ) (first count : ℕ) → IsRow runs → first + count ≤ length runs → count % 2 ≡ 1 → IsRow (runs_in runs first count)
IsRow-runs_in runs first count row within odd =
    let window = runs_in runs first count in
    let long = length-runs_in runs first count within in
    record {
      odd_number = ap (λ n. n % 2) long ∙ odd;
      each_inner = each_by (λ w. 1 ≤ w) (inner window) (λ i low.
          let n = length-inner window in
          let m = length-inner runs in
          let here : get_or (inner window) i 0 ≡ get_or runs (first + (1 + i)) 0 =
          inner-at window i (omega arith) ∙ runs_in-at runs first count (1 + i) (omega arith) in
          let there : get_or (inner runs) (first + i) 0 ≡ get_or runs (1 + (first + i)) 0 = inner-at runs (first + i) (omega arith) in
          let same : first + (1 + i) ≡ 1 + (first + i) = omega arith in
          let dots : 1 ≤ get_or (inner runs) (first + i) 0 = each_at (λ w. 1 ≤ w) (inner runs) row.each_inner (first + i) (omega arith) in
          subst (λ w. 1 ≤ w) (there ∙ ap (λ k. get_or runs k 0) (sym same) ∙ sym here) dots);
      at_most = let most = row.at_most in omega (arith, sum_by-take-le (λ x. x) (drop first runs) count, sum_by-take-drop (λ x. x) runs first);
    }

-- ---- a symbol's light ends are wider than its runs

narrow : (N W w m left : ℕ) → 0 < W → IsRun N W w m → 5 * W ≤ left * N → w < left
narrow N W w m left some run quiet =
    let near = run.near in
    let wide = mul-le-mul_right W run.most in
    elim (cases_lt w left) [
      | inl less ↦ less
      | inr rest ↦ absurd (let more = mul-le-mul_right N rest in omega arith)
    ]

-- a run between the ends of a row that shows a symbol is narrower than both
pub narrower : (ws : List ℕ) (c : Carrier) (way : Way) (ms : List ℕ) → IsRow ws → Shows ws c way ms → (i : ℕ) → i + 2 < length ws
    → (get_or ws (1 + i) 0 < get_or ws 0 0) × (get_or ws (1 + i) 0 < get_or ws (length ws - 1) 0)
narrower ws c way ms row s i low =
    let n = length-inner ws in
    let some = candidate_dots ws c s.N row s.candidate in
    let lying = rounds_lying way (inner ws) s.N ms s.rounds in
    let run = AllZip-get_or (IsRun s.N (sum (inner ws))) (inner ws) (along way ms) i 0 0 lying (omega arith) in
    let here = inner-at ws i low in
    let m = get_or (along way ms) i 0 in
    let moved : IsRun s.N (sum (inner ws)) (get_or ws (1 + i) 0) m = subst (λ w. IsRun s.N (sum (inner ws)) w m) here run in
    let quiet = s.quiet in (
      narrow s.N (sum (inner ws)) (get_or ws (1 + i) 0) m (get_or ws 0 0) some moved quiet.left,
      narrow s.N (sum (inner ws)) (get_or ws (1 + i) 0) m (get_or ws (length ws - 1) 0) some moved quiet.right,
    )

-- ---- the runs next to the light ends

-- of a row that shows a symbol
ends_of : (ws : List ℕ) (c : Carrier) (way : Way) (ms : List ℕ) → IsRow ws → Shows ws c way ms
    → MayEnd (get_or ws 0 0) (get_or ws 1 0) (get_or ws 2 0)
    × MayEnd (get_or ws (length ws - 1) 0) (get_or ws (length ws - 2) 0) (get_or ws (length ws - 3) 0)
ends_of ws c way ms row s =
    let n = length-inner ws in
    let many = (few_runs c (length (inner ws)) s.N s.candidate).0 in
    let some = candidate_dots ws c s.N row s.candidate in
    let W = sum (inner ws) in
    let ks = along way ms in
    let lying = rounds_lying way (inner ws) s.N ms s.rounds in
    let long = length_all_zip (IsRun s.N W) (inner ws) ks lying in
    let narrow = lying_narrow way (kind_of c) ms s.form in
    let run : (i : ℕ) → i < length (inner ws) → IsRun s.N W (get_or ws (1 + i) 0) (get_or ks i 0) =
    λ i low. subst (λ w. IsRun s.N W w (get_or ks i 0)) (inner-at ws i (omega arith)) (AllZip-get_or (IsRun s.N W) (inner ws) ks i 0 0 lying low) in
    let from_end : (k : ℕ) → k < length (inner ws) → IsRun s.N W (get_or ws (length ws - 2 - k) 0) (get_or (reverse ks) k 0) =
    λ k low.
    let at : 1 + (length (inner ws) - 1 - k) ≡ length ws - 2 - k = omega arith in
    let back : get_or ks (length (inner ws) - 1 - k) 0 ≡ get_or (reverse ks) k 0 =
    ap (λ l. get_or ks (l - 1 - k) 0) long ∙ sym (get_or-reverse ks k 0 (omega arith)) in
    subst (λ m. IsRun s.N W (get_or ws (length ws - 2 - k) 0) m) back
    (subst (λ i. IsRun s.N W (get_or ws i 0) (get_or ks (length (inner ws) - 1 - k) 0)) at (run (length (inner ws) - 1 - k) (omega arith))) in
    let second : length ws - 2 - 0 ≡ length ws - 2 = omega arith in
    let third : length ws - 2 - 1 ≡ length ws - 3 = omega arith in
    let left = narrow.0 in
    let right = narrow.1 in
    let quiet = s.quiet in (
      may_end s.N W (get_or ws 0 0) (get_or ws 1 0) (get_or ws 2 0) (get_or ks 0 0) (get_or ks 1 0) some quiet.left
          (run 0 (omega arith)) (run 1 (omega arith)) left.bar left.space,
      may_end s.N W (get_or ws (length ws - 1) 0) (get_or ws (length ws - 2) 0) (get_or ws (length ws - 3) 0) (get_or (reverse ks) 0 0)
          (get_or (reverse ks) 1 0)
          some quiet.right (subst (λ i. IsRun s.N W (get_or ws i 0) (get_or (reverse ks) 0 0)) second (from_end 0 (omega arith)))
          (subst (λ i. IsRun s.N W (get_or ws i 0) (get_or (reverse ks) 1 0)) third (from_end 1 (omega arith))) right.bar right.space,
    )

-- ---- the symbols of a row

module _ (runs : List ℕ) (year : Terms) (row : IsRow runs) (w : Window) (s : IsSymbolOf runs year w) where
  pub window_row : IsRow (runs_in runs w.first w.count)
  window_row = IsRow-runs_in runs w.first w.count row s.within s.ends_light

  pub shown : Shows (runs_in runs w.first w.count) w.carrier s.read.1.0 s.read.1.1
  shown = s.read.1.2

  pub window_candidate : HasSize (kind_of w.carrier) (w.count - 2) shown.N
  window_candidate =
      subst (λ n. HasSize (kind_of w.carrier) n shown.N) (length-inner (runs_in runs w.first w.count)
      ∙ ap (λ n. n - 2) (length-runs_in runs w.first w.count s.within)) shown.candidate

  pub window_counts : (27 ≤ w.count) × (w.count ≤ 597)
  window_counts = let few = few_runs w.carrier (w.count - 2) shown.N window_candidate in let many = few.0 in let most = few.1 in (omega arith, omega arith)

  -- the runs next to its ends are narrow
  pub window_ends : MayEnd (get_or runs w.first 0) (get_or runs (w.first + 1) 0) (get_or runs (w.first + 2) 0)
      × MayEnd (get_or runs (w.first + w.count - 1) 0) (get_or runs (w.first + w.count - 2) 0) (get_or runs (w.first + w.count - 3) 0)
  window_ends =
      let ws = runs_in runs w.first w.count in
      let long = length-runs_in runs w.first w.count s.within in
      let counts = window_counts in
      let many = counts.0 in
      let both = ends_of ws w.carrier s.read.1.0 s.read.1.1 window_row shown in
      let left = both.0 in
      let right = both.1 in
      let at : (i k : ℕ) → i < w.count → w.first + i ≡ k → get_or ws i 0 ≡ get_or runs k 0 =
      λ i k low e. runs_in-at runs w.first w.count i low ∙ ap (λ j. get_or runs j 0) e in
      let a = at 0 w.first (omega arith) (omega arith) in
      let b = at 1 (w.first + 1) (omega arith) (omega arith) in
      let c = at 2 (w.first + 2) (omega arith) (omega arith) in
      let x = at (length ws - 1) (w.first + w.count - 1) (omega arith) (omega arith) in
      let y = at (length ws - 2) (w.first + w.count - 2) (omega arith) (omega arith) in
      let z = at (length ws - 3) (w.first + w.count - 3) (omega arith) (omega arith) in
      let ld = left.narrow_dark in
      let ll = left.narrow_light in
      let rd = right.narrow_dark in
      let rl = right.narrow_light in (
        record { narrow_dark = omega arith; narrow_light = omega arith },
        record { narrow_dark = omega arith; narrow_light = omega arith },
      )

  -- each run between its ends is narrower than both
  pub window_narrow : (i : ℕ) → w.first < i → i + 1 < w.first + w.count
      → (get_or runs i 0 < get_or runs w.first 0) × (get_or runs i 0 < get_or runs (w.first + w.count - 1) 0)
  window_narrow i after before =
      let window = runs_in runs w.first w.count in
      let long = length-runs_in runs w.first w.count s.within in
      let j = i - w.first - 1 in
      let both = narrower window w.carrier s.read.1.0 s.read.1.1 window_row shown j (omega arith) in
      let here : get_or window (1 + j) 0 ≡ get_or runs i 0 =
      runs_in-at runs w.first w.count (1 + j) (omega arith) ∙ ap (λ k. get_or runs k 0) (let e : w.first + (1 + j) ≡ i = omega arith in e) in
      let left : get_or window 0 0 ≡ get_or runs w.first 0 =
      runs_in-at runs w.first w.count 0 (omega arith) ∙ ap (λ k. get_or runs k 0) (let e : w.first + 0 ≡ w.first = omega arith in e) in
      let right : get_or window (length window - 1) 0 ≡ get_or runs (w.first + w.count - 1) 0 =
      runs_in-at runs w.first w.count (length window - 1) (omega arith)
      ∙ ap (λ k. get_or runs k 0) (let e : w.first + (length window - 1) ≡ w.first + w.count - 1 = omega arith in e) in
      let one = both.0 in
      let two = both.1 in
      (omega arith, omega arith)

-- a window is no symbol where a run between its ends is no narrower than its first
pub none_past : (runs : List ℕ) (year : Terms) → IsRow runs → (v : Window) → IsSymbolOf runs year v → (first i : ℕ) → v.first ≡ first → first < i
    → i + 1 < first + v.count → get_or runs first 0 ≤ get_or runs i 0 → ⊥
none_past runs year row v s first i same after before wide =
    let narrow = (window_narrow runs year row v s i (omega arith) (omega arith)).0 in
    let left = ap (λ j. get_or runs j 0) same in omega arith
