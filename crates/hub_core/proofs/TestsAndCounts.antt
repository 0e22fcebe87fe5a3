-- Tests by their parts, and what a count (`once`) says of a test. `TruthFacts` of lane_core has more of `once`.
use Rattle.std.proofs.Common.{◌≡◌, ℕ, ◌+◌, ◌&&◌, ◌||◌, not, Bool, true, false, refl, sym, ap, ◌∙◌, arith, Option, Some, None, ◌≤◌}
use Rattle.lane_core.specs.Weights.{once}
use Rattle.std.specs.Option.{is_some, is_none}
use Rattle.std.proofs.lemmas.Bool.{and_parts, not-true}

-- two that are not true together count for both
pub once_or : (a t : Bool) → (t ≡ true → a ≡ false) → once (a || t) ≡ once a + once t
once_or true true f = absurd (cc (f refl))
once_or true false f = refl
once_or false true f = refl
once_or false false f = refl

-- what is a and not b is not b
pub not_taken : (a b : Bool) → (a && not b) ≡ true → b ≡ false
not_taken a b e = not-true b (and_parts a (not b) e).1

-- an option that is not none is some
pub some_if_not_none : {X : Type 0} (o : Option X) → is_none o ≡ false → is_some o ≡ true
some_if_not_none None none = absurd (cc)
some_if_not_none (Some x) none = refl

-- a test is b if it counts as n, and n is 1 or more exactly if b is true
pub true_by_count : (b : Bool) (n : ℕ) (t : Bool) → once t ≡ 0 + n → (b ≡ true → 1 ≤ n) → (1 ≤ n → b ≡ true) → t ≡ b
true_by_count true n true e f g = refl
true_by_count true n false e f g = absurd (let h = f refl in omega arith)
true_by_count false n true e f g = absurd (let h = g (omega arith) in cc)
true_by_count false n false e f g = refl

-- a and not h is w, where a is w or h, and h is not true beside w
pub there_by : (w h a : Bool) → (w || h) ≡ a → (h ≡ true → w ≡ false) → (a && not h) ≡ w
there_by true true a e f = absurd (let g = f refl in cc)
there_by true false a e f = ap (λ b. b && true) (sym e)
there_by false true a e f = ap (λ b. b && false) (sym e)
there_by false false a e f = ap (λ b. b && true) (sym e)

-- of three tests the last, where the others are true
pub third_test : (a b c : Bool) → a ≡ true → b ≡ true → (a && (b && c)) ≡ c
third_test a b c e f = ap (λ t. t && (b && c)) e ∙ ap (λ t. t && c) f
