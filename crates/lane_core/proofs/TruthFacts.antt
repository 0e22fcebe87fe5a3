-- Truth values, tests of numbers, and what they count for (`once`): of no lane and no list. `TestsAndCounts` of hub_core has more of both.
use Rattle.std.proofs.Common.{◌≡◌, ℕ, ◌+◌, ◌<◌, ◌≤◌, ◌==◌, ◌&&◌, ◌||◌, nat_lt, Bool, true, false, refl, sym, ap, ◌∙◌, arith, not, ◌⊎◌, inl, inr}
use Rattle.std.proofs.lemmas.Bool.Decides.{nat_tests}
use Rattle.std.proofs.lemmas.Bool.{le-ltb, lt-ltb, or_parts, or_right}
use Rattle.std.proofs.Math.Bool.{and-false, or-false}
use Rattle.lane_core.specs.Weights.{once}

-- what the test of a number below another counts for
pub once_below_next : (k n : ℕ) → once (nat_lt k (n + 1)) ≡ once (nat_lt k n) + once (n == k)
once_below_next k n = grind (arith, nat_tests)

pub once_not_below : (k n : ℕ) → n ≤ k → once (nat_lt k n) ≡ 0
once_not_below k n e = ap once (le-ltb k n e)

pub once_below : (k n : ℕ) → k < n → once (nat_lt k n) ≡ 1
once_below k n e = ap once (lt-ltb k n e)

-- what a test says, by what it counts for
pub true_from_once : (b : Bool) → 1 ≤ once b → b ≡ true
true_from_once true h = refl
true_from_once false h = absurd (omega arith)

pub false_from_once : (b : Bool) → once b ≡ 0 → b ≡ false
false_from_once true e = absurd (omega arith)
false_from_once false e = refl

-- no number is below 0
pub once_below_zero : (k : ℕ) → once (nat_lt k 0) ≡ 0
once_below_zero k = once_not_below k 0 (omega arith)

-- a test counts once at most
pub once_le : (b : Bool) → once b ≤ 1
once_le true = omega arith
once_le false = omega arith

-- a test whose opposite counts nothing is true
pub true_from_once_not : (b : Bool) → once (not b) ≡ 0 → b ≡ true
true_from_once_not true e = refl
true_from_once_not false e = absurd (omega arith)

-- where the first and the rest count for something, one of them does
pub here_or_there : (b : Bool) (n : ℕ) → 1 ≤ once b + n → (b ≡ true) ⊎ (1 ≤ n)
here_or_there true n e = inl refl
here_or_there false n e = inr (omega arith)

-- the numbers below h are those from p on and those below p
pub between_or_below : (k p h : ℕ) → p ≤ h → once (not (nat_lt k p) && nat_lt k h) + once (nat_lt k p) ≡ once (nat_lt k h)
between_or_below k p h e = grind (arith, nat_tests)

pub between : (k p h : ℕ) → p ≤ k → k < h → (not (nat_lt k p) && nat_lt k h) ≡ true
between k p h a b = grind (arith, nat_tests)

-- what is true already may be said once more
pub or_again : (a b c : Bool) → a ≡ c → (a || b) ≡ ((a || b) || c)
or_again true b c e = refl
or_again false true c e = refl
or_again false false true e = absurd (cc)
or_again false false false e = refl

-- std's `or-false`, of a value that is known to be false
pub or_false : (a b : Bool) → b ≡ false → (a || b) ≡ a
or_false a b e = ap (λ c. a || c) e ∙ or-false a

-- std's `and-false` and `false-or`
pub and_false_or : (a b : Bool) → ((a && false) || b) ≡ b
and_false_or a b = ap (λ c. c || b) (and-false a)

-- std's `or_parts`, of three
pub or_three_parts : (a b c : Bool) → (a || b || c) ≡ false → (a ≡ false) × (b ≡ false) × (c ≡ false)
or_three_parts a b c e =
    let p = or_parts (a || b) c e in
    let q = or_parts a b p.0 in
    (q.0, q.1, p.1)

-- `once_below_next`, of the tests themselves
pub below_next : (n k : ℕ) → nat_lt k (n + 1) ≡ (nat_lt k n || (n == k))
below_next n k = grind (arith, nat_tests)

-- the middle one of three becomes true, which is t
pub or_of_three_with : (a e k t come : Bool) → come ≡ false → t ≡ e → (a || (e && true) || k) ≡ ((a || (e && come) || k) || t)
or_of_three_with true e k t come c s = refl
or_of_three_with false true k t false c s = sym (or_right k t s)
or_of_three_with false false true t false c s = refl
or_of_three_with false false false t false c s = sym s
or_of_three_with false e k t true c s = absurd (cc)
