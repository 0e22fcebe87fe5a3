-- Sums and counts over lists: one item, another in its place, those that pass a test, and each.
use Rattle.std.proofs.Common.{◌≡◌, ℕ, ◌+◌, ◌≤◌, ◌||◌, nat_lt, Bool, true, false, List, [], ◌∷◌, set, replicate, Option, Some, None, option_to_list, refl, sym, ap, ◌∙◌, arith, zero, suc, length}
use Rattle.std.specs.List.{count_by, list_any, slice_get, sum_by}
use Rattle.std.proofs.lemmas.Bool.Decides.{nat_tests}
use Rattle.std.proofs.lemmas.List.Folds.{sum_by-replicate}
use Rattle.std.proofs.lemmas.List.Sums.{get_or-le-sum_by, sum_by-cons, sum_by-set}
use Rattle.std.proofs.lemmas.Option.{get_or_from_slice_get, slice_get_within}
use Rattle.lane_core.specs.declared.job.Plain.{Plain}
use Rattle.lane_core.specs.Weights.{once}
use Rattle.lane_core.proofs.TruthFacts.{false_from_once}

-- Another item at i. hub_core's RuleIsKept has `sum_put` and `sum_at` too, at the place that `get_elem?` reads
pub sum_put : {X : Type 0} (h : X → ℕ) (xs : List X) (i : ℕ) (v w : X) → slice_get xs i ≡ Some v → sum_by h (set xs i w) + h v ≡ sum_by h xs + h w
sum_put h xs i v w e = let s = ap h (get_or_from_slice_get xs i v v e) in omega (arith, sum_by-set h xs i w v (slice_get_within xs i v e))

-- an item's part of the sum
pub sum_at : {X : Type 0} (h : X → ℕ) (xs : List X) (i : ℕ) (v : X) → slice_get xs i ≡ Some v → h v ≤ sum_by h xs
sum_at h xs i v e = let s = ap h (get_or_from_slice_get xs i v v e) in omega (arith, get_or-le-sum_by h xs i v (slice_get_within xs i v e))

-- idle workers hold nothing
pub none_in : (h : Plain → ℕ) (n : ℕ) → sum_by (λ o. sum_by h (option_to_list o)) (replicate n None) ≡ 0
none_in h n = omega (arith, sum_by-replicate (λ (o : Option Plain). sum_by h (option_to_list o)) n None)

-- a test of one of several passes exactly if the numbers that tell it of each have a sum above 0
pub any_summed : {X : Type 0} (p : X → Bool) (f : X → ℕ) → ((x : X) → p x ≡ nat_lt 0 (f x)) → (xs : List X) → list_any p xs ≡ nat_lt 0 (sum_by f xs)
any_summed p f each [] = refl
any_summed p f each (x ∷ xs) = (λ i. each x i || any_summed p f each xs i) ∙ (either (f x) (sum_by f xs) ∙ ap (nat_lt 0) (sym (sum_by-cons f x xs)))
  where
    either : (n m : ℕ) → (nat_lt 0 n || nat_lt 0 m) ≡ nat_lt 0 (n + m)
    either n m = grind (arith, nat_tests)

pub any_counted : {X : Type 0} (p : X → Bool) (xs : List X) → list_any p xs ≡ nat_lt 0 (count_by p xs)
any_counted p xs = any_summed p (λ x. once (p x)) (λ x. counts (p x)) xs
  where
    counts : (b : Bool) → b ≡ nat_lt 0 (once b)
    counts true = refl
    counts false = refl

-- the sum of what follows one item that two lists begin with
pub sum_rest : (h : Plain → ℕ) (x y : Plain) (xs ys : List Plain) → x ≡ y → sum_by h (x ∷ xs) ≡ sum_by h (y ∷ ys) → sum_by h xs ≡ sum_by h ys
sum_rest h x y xs ys e same = let f = ap h e in omega (arith, sum_by-cons h x xs, sum_by-cons h y ys)

-- `sum_rest`, where the one sum is no more than the other
pub sum_rest_le : (h : Plain → ℕ) (x y : Plain) (xs ys : List Plain) → x ≡ y → sum_by h (x ∷ xs) ≤ sum_by h (y ∷ ys) → sum_by h xs ≤ sum_by h ys
sum_rest_le h x y xs ys e less = let f = ap h e in omega (arith, sum_by-cons h x xs, sum_by-cons h y ys)

-- each item counts 1
pub sum_ones : {X : Type 0} (xs : List X) → sum_by (λ _. 1) xs ≡ length xs
sum_ones [] = refl
sum_ones (x ∷ xs) = omega (arith, sum_by-cons (λ _. 1) x xs, sum_ones xs)

-- where no member passes the test, and those that fail it count nothing
pub sum_unpicked : {S : Type 0} (f : S → ℕ) (t : S → Bool) (ss : List S) → ((j : ℕ) (u : S) → slice_get ss j ≡ Some u → t u ≡ false → f u ≡ 0)
    → count_by t ss ≡ 0 → sum_by f ss ≡ 0
sum_unpicked f t [] zero_else none = refl
sum_unpicked f t (x ∷ xs) zero_else none =
    let count = sum_by-cons (λ u. once (t u)) x xs in
    let here = zero_else 0 x refl (false_from_once (t x) (omega arith)) in
    let rest = sum_unpicked f t xs (λ j u e. zero_else (suc j) u e) (omega arith) in omega (arith, sum_by-cons f x xs)

-- of several members, the one that passes the test has the whole sum
pub sum_picked : {S : Type 0} (f : S → ℕ) (t : S → Bool) (ss : List S) (i : ℕ) (s : S) → slice_get ss i ≡ Some s
    → ((j : ℕ) (u : S) → slice_get ss j ≡ Some u → t u ≡ false → f u ≡ 0)
    → count_by t ss ≤ 1 → t s ≡ true → sum_by f ss ≡ f s
sum_picked f t [] i s e zero_else one is = absurd (cc)
sum_picked f t (x ∷ xs) zero s e zero_else one is =
    let count = sum_by-cons (λ u. once (t u)) x xs in
    let same : x ≡ s = cc in
    let here : once (t x) ≡ 1 = ap (λ u. once (t u)) same ∙ ap once is in
    let rest = sum_unpicked f t xs (λ j u e'. zero_else (suc j) u e') (omega arith) in
    let k = ap f same in omega (arith, sum_by-cons f x xs)
sum_picked f t (x ∷ xs) (suc i) s e zero_else one is =
    let count = sum_by-cons (λ u. once (t u)) x xs in
    let there = sum_at (λ u. once (t u)) xs i s e in
    let one_there : once (t s) ≡ 1 = ap once is in
    let out : t x ≡ false = false_from_once (t x) (omega arith) in
    let here = zero_else 0 x refl out in
    let rest = sum_picked f t xs i s e (λ j u e'. zero_else (suc j) u e') (omega arith) is in omega (arith, sum_by-cons f x xs)

-- where each member has no more: std's `sum_by-le-sum_by`, of members alone
pub sum_each_le : {S : Type 0} (f g : S → ℕ) (ss : List S) → ((j : ℕ) (u : S) → slice_get ss j ≡ Some u → f u ≤ g u) → sum_by f ss ≤ sum_by g ss
sum_each_le f g [] each = omega arith
sum_each_le f g (x ∷ xs) each = let here = each 0 x refl in let rest =
    sum_each_le f g xs (λ j u e. each (suc j) u e) in omega (arith, sum_by-cons f x xs, sum_by-cons g x xs)

-- where each member counts nothing
pub sum_each_none : {S : Type 0} (f : S → ℕ) (ss : List S) → ((j : ℕ) (u : S) → slice_get ss j ≡ Some u → f u ≡ 0) → sum_by f ss ≡ 0
sum_each_none f [] each = refl
sum_each_none f (x ∷ xs) each = let here = each 0 x refl in let rest = sum_each_none f xs (λ j u e. each (suc j) u e) in omega (arith, sum_by-cons f x xs)
