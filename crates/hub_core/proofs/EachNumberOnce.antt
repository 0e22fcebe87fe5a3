-- Numbers that are each there once (`HasEach`), in any order: seats may be settled in any.
use Rattle.std.proofs.Common.{◌≡◌, ◌≢◌, ⊎_elim, ℕ, ◌+◌, ◌*◌, ◌<◌, ◌≤◌, ◌==◌, cond, nat_lt, Bool, true, false, zero, suc, List, [], ◌∷◌, length, refl, sym, ap, ◌∙◌, arith}
use Rattle.std.specs.List.{range_with_len, sum_by, count_by}
use Rattle.std.proofs.lemmas.Bool.{cases_eq, cases_lt, eq-eqb, le-ltb, lt-ltb, ne_eqb}
use Rattle.std.proofs.lemmas.List.FromFn.{length-range_with_len}
use Rattle.std.proofs.lemmas.List.Sums.{sum_by-cons}
use Rattle.lane_core.specs.Weights.{once}
use Rattle.hub_core.specs.Hubs.{HasEach}
use Rattle.lane_core.proofs.WeightFacts.{sum_ones}

-- what a number counts for is that of m or that of another
split_by : (F : ℕ → ℕ) (m k : ℕ) → F k ≡ cond (k == m) (F m) 0 + cond (k == m) 0 (F k)
split_by F m k = ⊎_elim
    (λ (e : k ≡ m).
    let a : cond (k == m) (F m) 0 ≡ F m = ap (λ b. cond b (F m) 0) (eq-eqb k m e) in
    let b : cond (k == m) 0 (F k) ≡ 0 = ap (λ b. cond b 0 (F k)) (eq-eqb k m e) in
    let f = ap F e in omega arith)
    (λ (e : k ≢ m).
    let a : cond (k == m) (F m) 0 ≡ 0 = ap (λ b. cond b (F m) 0) (ne_eqb k m e) in
    let b : cond (k == m) 0 (F k) ≡ F k = ap (λ b. cond b 0 (F k)) (ne_eqb k m e) in omega arith)
    (cases_eq k m)

-- and the sum over a list likewise
split : (F : ℕ → ℕ) (m : ℕ) (ks : List ℕ) → sum_by F ks ≡ sum_by (λ k. cond (k == m) (F m) 0) ks + sum_by (λ k. cond (k == m) 0 (F k)) ks
split F m [] = refl
split F m (k ∷ ks) = omega (
  arith,
  sum_by-cons F k ks,
  sum_by-cons (λ j. cond (j == m) (F m) 0) k ks,
  sum_by-cons (λ j. cond (j == m) 0 (F j)) k ks,
  split_by F m k,
  split F m ks,
)

-- m counts for c as often as it is there
picked_by : (b : Bool) (c n s : ℕ) → s ≡ n * c → cond b c 0 + s ≡ (once b + n) * c
picked_by true c n s e = omega (arith, e)
picked_by false c n s e = omega (arith, e)

picked : (c m : ℕ) (ks : List ℕ) → sum_by (λ k. cond (k == m) c 0) ks ≡ count_by (λ k. k == m) ks * c
picked c m [] = omega arith
picked c m (k ∷ ks) = sum_by-cons (λ j. cond (j == m) c 0) k ks ∙ (picked_by (k == m) c (count_by (λ j. j == m) ks) _ (picked c m ks)
    ∙ ap (λ n. n * c) (sym (sum_by-cons (λ j. once (j == m)) k ks)))

-- numbers past m are not m
range_above : (F : ℕ → ℕ) (m a n : ℕ) → m < a → sum_by (λ k. cond (k == m) 0 (F k)) (range_with_len a n) ≡ sum_by F (range_with_len a n)
range_above F m a zero less = refl
range_above F m a (suc n) less =
    let b : cond (a == m) 0 (F a) ≡ F a = ap (λ b. cond b 0 (F a)) (ne_eqb a m (λ e. omega arith)) in
    omega (
      arith,
      sum_by-cons F a (range_with_len (a + 1) n),
      sum_by-cons (λ k. cond (k == m) 0 (F k)) a (range_with_len (a + 1) n),
      range_above F m (a + 1) n (omega arith),
    )

-- a number that is not m or past it counts for nothing, if those below m do
past_by : (F : ℕ → ℕ) (m k : ℕ) → (k < m → F k ≡ 0) → (m ≤ k → ⊥) → F k ≡ 0
past_by F m k low high = ⊎_elim (λ (e : k < m). low e) (λ (e : m ≤ k). absurd (high e)) (cases_lt k m)

-- where none is m or past it, and the others count for nothing
sum_none_past : (F : ℕ → ℕ) (m : ℕ) (ks : List ℕ) → ((l : ℕ) → m ≤ l → count_by (λ k. k == l) ks ≡ 0) → ((l : ℕ) → l < m → F l ≡ 0) → sum_by F ks ≡ 0
sum_none_past F m [] none low = refl
sum_none_past F m (k ∷ ks) none low =
    let here = past_by F m k (low k) (λ e. let a = none k e in let b : once (k == k) ≡ 1 =
    ap once (eq-eqb k k refl) in omega (arith, sum_by-cons (λ j. once (j == k)) k ks)) in
    omega (arith, sum_by-cons F k ks, sum_none_past F m ks (λ l e. let a = none l e in omega (arith, sum_by-cons (λ j. once (j == l)) k ks)) low)

zero_both : (b : Bool) → ◌≡◌ {A = ℕ} (cond b 0 0) 0
zero_both true = refl
zero_both false = refl

-- numbers of which n are from m on, each once, if those below m count for nothing
from_each : (F : ℕ → ℕ) (m n : ℕ) (ks : List ℕ) → ((l : ℕ) → m ≤ l → count_by (λ k. k == l) ks ≡ once (nat_lt l (m + n))) → ((l : ℕ) → l < m → F l ≡ 0)
    → sum_by F ks ≡ sum_by F (range_with_len m n)
from_each F m zero ks counts low = sum_none_past F m ks (λ l e. counts l e ∙ ap once (le-ltb l (m + 0) (omega arith))) low
from_each F m (suc n) ks counts low =
    let G : ℕ → ℕ = λ k. cond (k == m) 0 (F k) in
    let one = counts m (omega arith) ∙ ap once (lt-ltb m (m + suc n) (omega arith)) in
    let same : m + suc n ≡ m + 1 + n = omega arith in
    let rest = from_each G (m + 1) n ks (λ l e. counts l (omega arith) ∙ ap (λ j. once (nat_lt l j)) same)
    (λ l e. ⊎_elim
    (λ (f : l ≡ m). ap (λ b. cond b 0 (F l)) (eq-eqb l m f))
    (λ (f : l ≢ m). ap (λ j. cond (l == m) 0 j) (low l (omega arith)) ∙ zero_both (l == m))
    (cases_eq l m)) in
    omega (arith, sum_by-cons F m (range_with_len (m + 1) n), split F m ks, picked (F m) m ks ∙ ap (λ j. j * F m) one, range_above F m (m + 1) n (omega arith))

-- numbers that are each there once have the sum of those numbers
pub sum_each : (n : ℕ) (ks : List ℕ) → HasEach n ks → (F : ℕ → ℕ) → sum_by F ks ≡ sum_by F (range_with_len 0 n)
sum_each n ks each F = let same : n ≡ 0 + n = omega arith in from_each F 0 n ks (λ l e. each l ∙ ap (λ j. once (nat_lt l j)) same) (λ l e. absurd (omega arith))

-- and there are n of them
pub each_counted : (n : ℕ) (ks : List ℕ) → HasEach n ks → length ks ≡ n
each_counted n ks each = sym (sum_ones ks) ∙ (sum_each n ks each (λ _. 1) ∙ (sum_ones (range_with_len 0 n) ∙ length-range_with_len 0 n))
