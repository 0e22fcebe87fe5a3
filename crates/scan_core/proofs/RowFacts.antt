-- Rows and their dots.
use Rattle.std.proofs.Common.{◌≡◌, ℕ, zero, suc, ◌-◌, ◌%◌, ◌<◌, ◌≤◌, ◌==◌, ◌&&◌, nat_le, Bool, true, false, List, [], ◌∷◌, ◌++◌, length, take, drop, sum, replicate, Some, None, Contains, length-drop, refl, subst, arith, inl, inr, if◌then◌else◌}
use Rattle.std.specs.List.{AllByRecursion, list_all}
use Rattle.std.proofs.lemmas.Bool.{and_parts, cases_lt, le-leb, leb-true}
use Rattle.std.specs.Cmp.Derive.{both_true}
use Rattle.std.proofs.lemmas.Bool.Decides.{nat_tests}
use Rattle.std.proofs.lemmas.List.{append-nil, length-take-le}
use Rattle.std.proofs.lemmas.List.Elements.{Contains-append_right}
use Rattle.std.proofs.lemmas.List.Sums.{sum_by-cons, sum_by-take-le, sum_by-take-drop}
use Rattle.scan_core.specs.declared.fault.RunFault.TheVariants.{BadRuns, TooWide}
use Rattle.scan_core.specs.Row.{IsRow, dots_from, dots_of, inner, runs_fault}

-- one element more of which it holds
pub each-push : (P : ℕ → Type 0) (ws : List ℕ) (w : ℕ) → AllByRecursion P ws → P w → AllByRecursion P (ws ++ w ∷ [])
each-push P [] w each last = (last, tt)
each-push P (x ∷ ws) w each last = (each.0, each-push P ws w each.1 last)

-- what passes the test has dots
each_dot : (ws : List ℕ) → list_all (λ w. nat_le 1 w) ws ≡ true → AllByRecursion (λ w. 1 ≤ w) ws
each_dot [] h = tt
each_dot (w ∷ ws) h = let parts = and_parts (nat_le 1 w) (list_all (λ w. nat_le 1 w) ws) h in (leb-true 1 w parts.0, each_dot ws parts.1)

tested : (ws : List ℕ) → AllByRecursion (λ w. 1 ≤ w) ws → list_all (λ w. nat_le 1 w) ws ≡ true
tested [] each = refl
tested (w ∷ ws) each = both_true (le-leb 1 w each.0) (tested ws each.1)

passed : (odd dots fit : Bool) → None ≡ (if odd && dots then (if fit then None else Some TooWide) else Some BadRuns) → (odd ≡ true) × (dots ≡ true)
    × (fit ≡ true)
passed true true true h = (refl, refl, refl)
passed true true false h = absurd cc
passed true false fit h = absurd cc
passed false dots fit h = absurd cc

-- widths without a fault are a row
pub row_of : (ws : List ℕ) → None ≡ runs_fault ws → IsRow ws
row_of ws h =
    let parts = passed (length ws % 2 == 1) (list_all (λ w. nat_le 1 w) (inner ws)) (nat_le (sum ws) 65535) h in
    record {
      odd_number = grind (arith, nat_tests, parts.0);
      each_inner = each_dot (inner ws) parts.1;
      at_most = leb-true (sum ws) 65535 parts.2;
    }

-- and a row has no fault
pub fault_of : (ws : List ℕ) → IsRow ws → runs_fault ws ≡ None
fault_of ws row =
    let odd : (length ws % 2 == 1) ≡ true = grind (arith, nat_tests, row.odd_number) in
    rw (odd, tested (inner ws) row.each_inner, le-leb (sum ws) 65535 row.at_most) refl

-- the runs between the ends are no wider than the row
pub inner_le : (ws : List ℕ) → sum (inner ws) ≤ sum ws
inner_le ws = omega (arith, sum_by-take-le (λ x. x) (drop 1 ws) (length ws - 2), sum_by-take-drop (λ x. x) ws 1)

-- runs that each have a dot have some together
pub some_dots : (ws : List ℕ) → AllByRecursion (λ w. 1 ≤ w) ws → 0 < length ws → 0 < sum ws
some_dots [] each h = absurd (omega arith)
some_dots (w ∷ ws) each h = let first = each.0 in omega (arith, sum_by-cons (λ x. x) w ws)

-- a run of dark dots
dark_run : (w : ℕ) (rest : List Bool) → 1 ≤ w → Contains (replicate w true ++ rest) true
dark_run zero rest h = absurd (omega arith)
dark_run (suc w) rest h = (0, omega arith, refl)

-- a row of more than one run has a dark dot
pub has_dark : (ws : List ℕ) → IsRow ws → 1 < length ws → Contains (dots_of ws) true
has_dark [] row h = absurd (omega arith)
has_dark (a ∷ []) row h = absurd (omega arith)
has_dark (a ∷ b ∷ []) row h = absurd (let odd = row.odd_number in omega arith)
has_dark (a ∷ b ∷ c ∷ ws) row h =
    let between : length (a ∷ b ∷ c ∷ ws) - 2 ≡ suc (length ws) = omega arith in
    let each = subst (λ n. AllByRecursion (λ w. 1 ≤ w) (take n (b ∷ c ∷ ws))) between row.each_inner in
    Contains-append_right (replicate a false) (dots_from true (b ∷ c ∷ ws)) true (dark_run b (dots_from false (c ∷ ws)) each.0)

light_run : (w : ℕ) → Contains (replicate w false) true → ⊥
light_run zero h = let low = h.1 in omega arith
light_run (suc w) (zero, low, dark) = absurd cc
light_run (suc w) (suc k, low, dark) = light_run w (k, omega arith, dark)

-- a row of one run has none
pub has_no_dark : (ws : List ℕ) → length ws ≡ 1 → Contains (dots_of ws) true → ⊥
has_no_dark [] e h = omega arith
has_no_dark (a ∷ []) e h = light_run a (rw append-nil at h)
has_no_dark (a ∷ b ∷ ws) e h = absurd (omega arith)

-- runs that each have a dot have as many dots at least
dots_each : (ws : List ℕ) → list_all (λ w. nat_le 1 w) ws ≡ true → length ws ≤ sum ws
dots_each [] h = omega arith
dots_each (w ∷ ws) h =
    let parts = and_parts (nat_le 1 w) (list_all (λ w. nat_le 1 w) ws) h in
    let rest = dots_each ws parts.1 in
    let first = leb-true 1 w parts.0 in
    omega (arith, rest, first, sum_by-cons (λ x. x) w ws)

-- so 65,538 runs, of which the inner ones have a dot each, are too wide
pub many_runs : (ws : List ℕ) → list_all (λ w. nat_le 1 w) (inner ws) ≡ true → 65537 < length ws → 65535 < sum ws
many_runs ws h many =
    let dots = dots_each (inner ws) h in
    omega (arith, dots, inner_le ws, length-take-le (length ws - 2) (drop 1 ws) (omega (arith, length-drop 1 ws)))

-- runs that are odd in number, with a dot in each inner one, and too wide have that fault
pub too_wide : (ws : List ℕ) → (length ws % 2 ≡ 0 → ⊥) → list_all (λ w. nat_le 1 w) (inner ws) ≡ true → 65535 < sum ws → Some TooWide ≡ runs_fault ws
too_wide ws odd dots wide =
    let odd_number : (length ws % 2 == 1) ≡ true = grind (arith, nat_tests) in
    let large : nat_le (sum ws) 65535 ≡ false = grind (arith, nat_tests) in
    rw (odd_number, dots, large) refl

-- a row has no more runs than that
pub row_short : (ws : List ℕ) → IsRow ws → length ws ≤ 65537
row_short ws row =
    elim (cases_lt 65537 (length ws)) [
      | inl many ↦ absurd (let most = row.at_most in let wide = many_runs ws (tested (inner ws) row.each_inner) many in omega arith)
      | inr few ↦ few
    ]
