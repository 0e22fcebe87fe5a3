-- Widths as `read_widths` keeps them, each above 65,535 as 65,535, have the same faults, except that their sum may pass.
use Rattle.std.proofs.Common.{◌&&◌, ◌%◌, ◌==◌, ◌<◌, ◌≡◌, ◌≤◌, ◌-◌, ◌∙◌, ◌∷◌, Bool, List, None, Option, Some, [], ap, arith, drop, false, get_or, if◌then◌else◌, length, min, nat_le, nat_lt, refl, subst, sum, sym, true, ℕ}
use Rattle.std.specs.List.{list_all}
use Rattle.std.proofs.lemmas.Bool.{leb-false, lt-leb, ltb-false, ltb-true, or_parts}
use Rattle.std.proofs.lemmas.Bool.Decides.{nat_tests}
use Rattle.std.proofs.lemmas.List.{drop-map, length-map, take-map}
use Rattle.std.proofs.lemmas.List.Folds.{Any-from_list_any}
use Rattle.std.proofs.lemmas.List.Sums.{get_or-le-sum_by, sum-map, sum_by-le-sum_by}
use Rattle.scan_core.specs.Row.{inner, runs_fault}
use Rattle.scan_core.specs.declared.fault.RunFault.{RunFault}
use Rattle.scan_core.specs.declared.fault.RunFault.TheVariants as run
use Rattle.csv_records.specs.inner.FrontWidths.{capped, has_wide}

-- a width is 0 just if it is 0 capped
some_capped : (w : ℕ) → nat_le 1 (min 65535 w) ≡ nat_le 1 w
some_capped w = grind (arith, nat_tests)

-- all widths of a list are above 0 just if all capped ones are
all_capped : (ws : List ℕ) → list_all (λ w. nat_le 1 w) (capped ws) ≡ list_all (λ w. nat_le 1 w) ws
all_capped [] = refl
all_capped (w ∷ ws) = rw (some_capped w, all_capped ws) refl

inner_capped : (ws : List ℕ) → inner (capped ws) ≡ capped (inner ws)
inner_capped ws = rw (length-map ws (min 65535), drop-map (min 65535) 1 ws, take-map (min 65535) (length ws - 2) (drop 1 ws)) refl

sum_capped : (ws : List ℕ) → sum (capped ws) ≤ sum ws
sum_capped ws =
    let less : (w : ℕ) → min 65535 w ≤ w = λ w. omega arith in
    subst (λ n. n ≤ sum ws) (sym (sum-map (min 65535) ws)) (sum_by-le-sum_by (min 65535) (λ w. w) ws less)

-- if one width is above 65,535, the sum is
sum_wide : (ws : List ℕ) → has_wide ws ≡ true → 65535 < sum ws
sum_wide ws some =
    let one = Any-from_list_any (nat_lt 65535) ws some in
    let at : get_or ws one.0 one.1 ≡ one.1 = one.3 in
    let part : get_or ws one.0 one.1 ≤ sum ws = get_or-le-sum_by (λ w. w) ws one.0 one.1 one.2 in
    omega (arith, ltb-true 65535 one.1 one.4, at, part)

-- if no width is above 65,535, capping changes none
pub capped_narrow : (ws : List ℕ) → has_wide ws ≡ false → capped ws ≡ ws
capped_narrow [] narrow = refl
capped_narrow (w ∷ ws) narrow =
    let parts = or_parts (nat_lt 65535 w) (has_wide ws) narrow in
    let high : min 65535 w ≡ w = omega (arith, ltb-false 65535 w parts.0) in
    rw (high, capped_narrow ws parts.1) refl

-- the number of the widths and the inner ones are right: the first test of `runs_fault`
is_spaced : List ℕ → Bool
is_spaced ws = (length ws % 2 == 1) && list_all (λ w. nat_le 1 w) (inner ws)

spaced_capped : (ws : List ℕ) → is_spaced (capped ws) ≡ is_spaced ws
unfolding is_spaced
spaced_capped ws = rw (inner_capped ws, all_capped (inner ws), length-map ws (min 65535)) refl

-- ---- faults

-- the fault by the two tests of `runs_fault`: whether the widths are spaced, and whether their sum is small
abbrev fault_of_tests : Bool → Bool → Option RunFault
fault_of_tests spaced small = if spaced then (if small then None else Some run.TooWide) else Some run.BadRuns

own_fault : (ws : List ℕ) → runs_fault ws ≡ fault_of_tests (is_spaced ws) (nat_le (sum ws) 65535)
unfolding is_spaced
own_fault ws = refl

capped_fault : (ws : List ℕ) → runs_fault (capped ws) ≡ fault_of_tests (is_spaced ws) (nat_le (sum (capped ws)) 65535)
capped_fault ws = own_fault (capped ws) ∙ ap (λ b. fault_of_tests b (nat_le (sum (capped ws)) 65535)) (spaced_capped ws)

-- with another sum: `BadRuns` stays, `TooWide` stays if the sum stays large, and a row whose sum becomes large is `TooWide`
bad_by : (spaced small other : Bool) → fault_of_tests spaced small ≡ Some run.BadRuns → fault_of_tests spaced other ≡ Some run.BadRuns
bad_by true true other is = cc is
bad_by true false other is = cc is
bad_by false small other is = refl

wide_by : (spaced small other : Bool) → (small ≡ false → other ≡ false) → fault_of_tests spaced small ≡ Some run.TooWide → fault_of_tests spaced other ≡ Some run.TooWide
wide_by true true other more is = cc is
wide_by true false other more is = ap (fault_of_tests true) (more refl)
wide_by false small other more is = cc is

wide_from_row : (spaced small other : Bool) → other ≡ false → fault_of_tests spaced small ≡ None → fault_of_tests spaced other ≡ Some run.TooWide
wide_from_row true small other large is = ap (fault_of_tests true) large
wide_from_row false small other large is = cc is

-- if the number of the capped widths or an inner one is at fault, that of the widths themselves is
pub bad_capped : (ws : List ℕ) → runs_fault (capped ws) ≡ Some run.BadRuns → runs_fault ws ≡ Some run.BadRuns
bad_capped ws is =
    own_fault ws ∙ bad_by (is_spaced ws) (nat_le (sum (capped ws)) 65535) (nat_le (sum ws) 65535) (sym (capped_fault ws) ∙ is)

-- if the sum of the capped widths is at fault, that of the widths themselves is
pub wide_capped : (ws : List ℕ) → runs_fault (capped ws) ≡ Some run.TooWide → runs_fault ws ≡ Some run.TooWide
wide_capped ws is =
    own_fault ws
    ∙ wide_by (is_spaced ws) (nat_le (sum (capped ws)) 65535) (nat_le (sum ws) 65535)
    (λ large. lt-leb (sum ws) 65535 (omega (arith, sum_capped ws, leb-false (sum (capped ws)) 65535 large))) (sym (capped_fault ws) ∙ is)

-- if the capped widths are a row and one is above 65,535, the sum is at fault
pub one_wide : (ws : List ℕ) → runs_fault (capped ws) ≡ None → has_wide ws ≡ true → runs_fault ws ≡ Some run.TooWide
one_wide ws is wide =
    own_fault ws
    ∙ wide_from_row (is_spaced ws) (nat_le (sum (capped ws)) 65535) (nat_le (sum ws) 65535) (lt-leb (sum ws) 65535 (sum_wide ws wide)) (sym (capped_fault ws) ∙ is)
