-- The bars of a symbol, run by run.
use Rattle.std.proofs.Common.{◌≡◌, ◌∙◌, ◌+◌, ◌*◌, ◌<◌, ◌≤◌, ℕ, List, length, get_or, sum, take, ap, arith}
use Rattle.std.proofs.lemmas.List.Sums.{sum_by_more}

-- the modules of one run more, in dots
pub one_run_more : (xs : List ℕ) (k dots : ℕ) → k < length xs → dots * sum (take (k + 1) xs) ≡ dots * sum (take k xs) + dots * get_or xs k 0
one_run_more xs k dots low =
    let more : sum (take (k + 1) xs) ≡ sum (take k xs) + get_or xs k 0 = sum_by_more (λ x. x) xs k 0 low in
    ap (λ (n : ℕ). dots * n) more ∙ grind arith

-- so many dots of a width
pub few_dots : (dots width : ℕ) → dots ≤ 65535 → width ≤ 255 → dots * width ≤ 16711425
few_dots dots width few narrow = grind arith
