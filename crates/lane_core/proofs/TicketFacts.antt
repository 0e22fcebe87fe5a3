-- Tickets: how often a list or workers have one, and lists of one lane's numbers in order.
use Rattle.std.proofs.Common.{◌≡◌, ◌≢◌, ℕ, ◌+◌, ◌<◌, ◌≤◌, ◌==◌, nat_lt, true, false, suc, List, [], ◌∷◌, length, refl, sym, ap, ◌∙◌, arith, ◌&&◌, Bool, not, cond, take, ◌++◌, drop, take-append-drop, Option, option_to_list}
use Rattle.std.proofs.lemmas.Bool.Decides.{nat_tests}
use Rattle.std.specs.List.{sum_by, count_by, list_all}
use Rattle.std.proofs.lemmas.List.Sums.{sum_by-cons}
use Rattle.std.proofs.lemmas.Bool.{and_parts, eqb-true, ltb-true, ne_eqb, lt-ltb, and_from, eq-eqb, and_left, and_right, ltb-false}
use Rattle.std.proofs.lemmas.Grind.{common_steps}
use Rattle.std.proofs.Math.Bool.{and-false, and-true}
use Rattle.lane_core.specs.declared.job.Plain.{Plain}
use Rattle.lane_core.specs.Tickets.{is_among, is_ticket_of, numbered, is_held_by}
use Rattle.lane_core.specs.Weights.{once}
use Rattle.lane_core.specs.inner.Settling.{is_elsewhere}
use Rattle.lane_core.proofs.TruthFacts.{once_below_next, once_below_zero}
use Rattle.lane_core.proofs.WeightFacts.{any_counted, any_summed}
use Rattle.lane_core.proofs.SameFacts.{is_same}

-- the lane and number of what has a ticket
pub ticket_parts : (l k : ℕ) (x : Plain) → is_ticket_of l k x ≡ true → (x.lane ≡ l) × (x.number ≡ k)
ticket_parts l k x e = let s = and_parts (x.lane == l) (x.number == k) e in (eqb-true x.lane l s.0, eqb-true x.number k s.1)

-- what has this lane and number has the ticket
pub ticket_from : (l k : ℕ) (x : Plain) → x.lane ≡ l → x.number ≡ k → is_ticket_of l k x ≡ true
ticket_from l k x lane number = and_from (x.lane == l) (x.number == k) (eq-eqb x.lane l lane) (eq-eqb x.number k number)

-- what has one ticket has another exactly if they are the same
pub ticket_is : (l n m k : ℕ) (y : Plain) → is_ticket_of l n y ≡ true → is_ticket_of m k y ≡ ((l == m) && (n == k))
ticket_is l n m k y e = let p = ticket_parts l n y e in λ i. (p.0 i == m) && (p.1 i == k)

-- a ticket of one lane is none of another
pub not_ticket_of : (l m k : ℕ) (x : Plain) → x.lane ≡ l → l ≢ m → is_ticket_of m k x ≡ false
not_ticket_of l m k x at other = grind (arith, nat_tests)

-- the ticket of x counts for its own lane and number alone
pub own_ticket : (l n k : ℕ) (x : Plain) → x.lane ≡ l → x.number ≡ n → once (is_ticket_of l k x) ≡ once (n == k)
own_ticket l n k x a b = ap once ((λ i. (a i == l) && (b i == k)) ∙ ap (λ c. c && (n == k)) (eq-eqb l l refl))

pub other_ticket : (l m k : ℕ) (x : Plain) → x.lane ≡ l → m ≢ l → once (is_ticket_of m k x) ≡ 0
other_ticket l m k x a apart = ap once (not_ticket_of l m k x a (λ e. apart (sym e)))

-- what is among them is there once or more, what is not is there 0 times, and both back
pub among_times : (l k : ℕ) (xs : List Plain) → is_among l k xs ≡ true → 1 ≤ count_by (is_ticket_of l k) xs
among_times l k xs e = ltb-true 0 (count_by (is_ticket_of l k) xs) (sym (any_counted (is_ticket_of l k) xs) ∙ e)

pub not_among_times : (l k : ℕ) (xs : List Plain) → is_among l k xs ≡ false → count_by (is_ticket_of l k) xs ≡ 0
not_among_times l k xs e = let none = ltb-false 0 (count_by (is_ticket_of l k) xs) (sym (any_counted (is_ticket_of l k) xs) ∙ e) in omega arith

pub not_among : (l k : ℕ) (xs : List Plain) → count_by (is_ticket_of l k) xs ≡ 0 → is_among l k xs ≡ false
not_among l k xs e = any_counted (is_ticket_of l k) xs ∙ ap (nat_lt 0) e

pub among_from : (l k : ℕ) (xs : List Plain) → 1 ≤ count_by (is_ticket_of l k) xs → is_among l k xs ≡ true
among_from l k xs e = any_counted (is_ticket_of l k) xs ∙ lt-ltb 0 (count_by (is_ticket_of l k) xs) e

-- how often workers hold it
abbrev pub times_held : ℕ → ℕ → List (Option Plain) → ℕ
times_held l k workers = sum_by (λ o. count_by (is_ticket_of l k) (option_to_list o)) workers

-- `any_counted`, of what workers hold
held_counted : (l k : ℕ) (workers : List (Option Plain)) → is_held_by l k workers ≡ nat_lt 0 (times_held l k workers)
held_counted l k workers = any_summed (λ o. is_among l k (option_to_list o)) (λ o. count_by (is_ticket_of l k) (option_to_list o))
    (λ o. any_counted (is_ticket_of l k) (option_to_list o)) workers

pub held_times : (l k : ℕ) (workers : List (Option Plain)) → is_held_by l k workers ≡ true → 1 ≤ times_held l k workers
held_times l k workers e = ltb-true 0 (times_held l k workers) (sym (held_counted l k workers) ∙ e)

pub not_held_times : (l k : ℕ) (workers : List (Option Plain)) → is_held_by l k workers ≡ false → times_held l k workers ≡ 0
not_held_times l k workers e = let none = ltb-false 0 (times_held l k workers) (sym (held_counted l k workers) ∙ e) in omega arith

-- an item counts once for its own ticket
pub ticket_self : (x : Plain) → once (is_ticket_of x.lane x.number x) ≡ 1
ticket_self x = ap once (ticket_from x.lane x.number x refl refl)

-- the first of a lane's numbers from n on, and those after it
pub record Numbered (l n : ℕ) (x : Plain) (xs : List Plain) : Type 0 where
  pub lane : x.lane ≡ l
  pub number : x.number ≡ n
  pub rest : numbered l (suc n) xs ≡ true

pub numbered_parts : (l n : ℕ) (x : Plain) (xs : List Plain) → numbered l n (x ∷ xs) ≡ true → Numbered l n x xs
numbered_parts l n x xs e =
    let s = and_parts (x.lane == l) ((x.number == n) && numbered l (suc n) xs) e in
    let t = and_parts (x.number == n) (numbered l (suc n) xs) s.1 in
    record { lane = eqb-true x.lane l s.0; number = eqb-true x.number n t.0; rest = t.1 }

-- a lane's number n before its numbers from n + 1 on
numbered_from : (l n : ℕ) (x : Plain) (xs : List Plain) → x.lane ≡ l → x.number ≡ n → numbered l (suc n) xs ≡ true → numbered l n (x ∷ xs) ≡ true
numbered_from l n x xs a b rest =
    and_from (x.lane == l) ((x.number == n) && numbered l (suc n) xs) (eq-eqb x.lane l a)
    (and_from (x.number == n) (numbered l (suc n) xs) (eq-eqb x.number n b) rest)

-- a lane's numbers and the one after them
pub numbered_more : (lane n : ℕ) (xs : List Plain) (x : Plain) → numbered lane n xs ≡ true → x.lane ≡ lane → x.number ≡ n + length xs
    → numbered lane n (xs ++ x ∷ []) ≡ true
numbered_more lane n [] x h e f = grind (arith, common_steps)
numbered_more lane n (y ∷ xs) x h e f = let rest = numbered_more lane (suc n) xs x in grind (arith, common_steps, rest)

-- the first of a lane's numbers are numbered so too
pub numbered_front : (l n : ℕ) (xs ys : List Plain) → numbered l n (xs ++ ys) ≡ true → numbered l n xs ≡ true
numbered_front l n [] ys e = refl
numbered_front l n (x ∷ xs) ys e =
    let p = numbered_parts l n x (xs ++ ys) e in numbered_from l n x xs p.lane p.number (numbered_front l (suc n) xs ys p.rest)

-- no later number is that of x
pub no_later_same : (l m : ℕ) (x : Plain) (xs : List Plain) → numbered l m xs ≡ true → x.number < m → count_by (λ z. is_same x z) xs ≡ 0
no_later_same l m x [] e h = refl
no_later_same l m x (y ∷ xs) e h =
    let p = numbered_parts l m y xs e in
    let at = p.number in
    let differs : is_same x y ≡ false = and_left (x.number == y.number) _ (ne_eqb x.number y.number (λ f. absurd (omega arith))) in
    let none_here = ap once differs in
    omega (arith, sum_by-cons (λ z. once (is_same x z)) y xs, no_later_same l (suc m) x xs p.rest (omega arith))

-- a lane's numbers are of that lane
pub of_one_lane : (l n : ℕ) (xs : List Plain) → numbered l n xs ≡ true → list_all (λ x. x.lane == l) xs ≡ true
of_one_lane l n [] e = refl
of_one_lane l n (x ∷ xs) e =
    let p = numbered_parts l n x xs e in
    and_from (x.lane == l) (list_all (λ y. y.lane == l) xs) (eq-eqb x.lane l p.lane) (of_one_lane l (suc n) xs p.rest)

-- what is one lane's has no sum for the test of another
pub sum_of_others : (l m : ℕ) (h : Plain → ℕ) (xs : List Plain) → list_all (λ x. x.lane == m) xs ≡ true → (m == l) ≡ false
    → sum_by (λ x. cond (x.lane == l) (h x) 0) xs ≡ 0
sum_of_others l m h [] e f = refl
sum_of_others l m h (x ∷ xs) e f =
    let s = and_parts (x.lane == m) (list_all (λ y. y.lane == m) xs) e in
    let is : (x.lane == l) ≡ false = ap (λ k. k == l) (eqb-true x.lane m s.0) ∙ f in
    let here : cond (x.lane == l) (h x) 0 ≡ 0 = ap (λ b. cond b (h x) 0) is in
    omega (arith, sum_by-cons (λ (y : Plain). cond (y.lane == l) (h y) 0) x xs, sum_of_others l m h xs s.1 f)

-- what is one lane's has the whole sum for the test of its own lane
pub sum_of_own : (l : ℕ) (h : Plain → ℕ) (xs : List Plain) → list_all (λ x. x.lane == l) xs ≡ true → sum_by (λ x. cond (x.lane == l) (h x) 0) xs ≡ sum_by h xs
sum_of_own l h [] e = refl
sum_of_own l h (x ∷ xs) e =
    let s = and_parts (x.lane == l) (list_all (λ y. y.lane == l) xs) e in
    let here : cond (x.lane == l) (h x) 0 ≡ h x = ap (λ b. cond b (h x) 0) s.0 in
    omega (arith, sum_by-cons (λ (y : Plain). cond (y.lane == l) (h y) 0) x xs, sum_by-cons h x xs, sum_of_own l h xs s.1)

-- no later number is k: `no_later_same`, of a ticket
none_past_number : (l k m n : ℕ) (xs : List Plain) → numbered m n xs ≡ true → k < n → count_by (is_ticket_of l k) xs ≡ 0
none_past_number l k m n [] e h = refl
none_past_number l k m n (x ∷ xs) e h =
    let p = numbered_parts m n x xs e in
    let at = p.number in
    let none : once (is_ticket_of l k x) ≡ 0 = ap once (and_right (x.lane == l) (x.number == k) (ne_eqb x.number k (λ f. absurd (omega arith)))) in
    omega (arith, sum_by-cons (λ y. once (is_ticket_of l k y)) x xs, none_past_number l k m (suc n) xs p.rest (omega arith))

-- a step of `ticket_once`: the first item counts only if it is number k (c) of the lane (a), and then none behind it does (w)
once_by : (c : Bool) (a : Bool) (k n b w : ℕ) → once a ≡ b → (c ≡ true → k < suc n) → w ≤ b → (k < suc n → w ≡ 0) → once (a && c) + w ≤ b
once_by true a k n b w lane_is is rest gone = let z = gone (is refl) in let y = ap once (and-true a) in omega arith
once_by false a k n b w lane_is is rest gone = let y = ap once (and-false a) in omega arith

once_step : (l k n : ℕ) (x : Plain) (xs : List Plain) (b : ℕ) → once (x.lane == l) ≡ b → x.number ≡ n
    → count_by (is_ticket_of l k) xs ≤ b → (k < suc n → count_by (is_ticket_of l k) xs ≡ 0) → count_by (is_ticket_of l k) (x ∷ xs) ≤ b
once_step l k n x xs b lane_is at rest gone =
    omega (
      arith,
      sum_by-cons (λ y. once (is_ticket_of l k y)) x xs,
      once_by (x.number == k) (x.lane == l) k n b (count_by (is_ticket_of l k) xs) lane_is
          (λ h. let e = eqb-true x.number k h in omega arith) rest gone,
    )

-- one lane's numbers have each ticket once at most, and only tickets of that lane
pub ticket_once : (l k m n : ℕ) (xs : List Plain) → numbered m n xs ≡ true → count_by (is_ticket_of l k) xs ≤ once (m == l)
ticket_once l k m n [] e = omega arith
ticket_once l k m n (x ∷ xs) e =
    let p = numbered_parts m n x xs e in
    let lane_is : once (x.lane == l) ≡ once (m == l) = ap (λ j. once (j == l)) p.lane in
    let at = p.number in
    once_step l k n x xs (once (m == l)) lane_is at (ticket_once l k m (suc n) xs p.rest) (λ h. none_past_number l k m (suc n) xs p.rest h)

-- where the lane is one of the first n, none of its numbers is set aside
pub all_here : (n m k : ℕ) (xs : List Plain) → numbered m k xs ≡ true → m < n → count_by (λ x. is_elsewhere n x) xs ≡ 0
all_here n m k [] e h = refl
all_here n m k (x ∷ xs) e h =
    let p = numbered_parts m k x xs e in
    let at = p.lane in
    let is : nat_lt x.lane n ≡ true = lt-ltb x.lane n (omega arith) in
    let none : once (is_elsewhere n x) ≡ 0 = ap (λ b. once (not b)) is in
    omega (arith, sum_by-cons (λ y. once (is_elsewhere n y)) x xs, all_here n m (suc k) xs p.rest h)

-- `numbered_front`, of `take`
pub numbered-take : (l n p : ℕ) (xs : List Plain) → numbered l n xs ≡ true → numbered l n (take p xs) ≡ true
numbered-take l n p xs e = numbered_front l n (take p xs) (drop p xs) (ap (numbered l n) (take-append-drop p xs) ∙ e)

-- how often number k is among a lane's numbers from n on: once if it is below their end and not below n
exact_times : (l n k : ℕ) (xs : List Plain) → numbered l n xs ≡ true → count_by (is_ticket_of l k) xs + once (nat_lt k n) ≡ once (nat_lt k (n + length xs))
exact_times l n k [] e = let z : n ≡ n + 0 = omega arith in let w = ap (λ m. once (nat_lt k m)) z in omega arith
exact_times l n k (x ∷ xs) e =
    let p = numbered_parts l n x xs e in
    let here = own_ticket l n k x p.lane p.number in
    let more = once_below_next k n in
    let up : n + 1 ≡ suc n = omega arith in
    let up_once = ap (λ m. once (nat_lt k m)) up in
    let rest = exact_times l (suc n) k xs p.rest in
    let z : suc n + length xs ≡ n + suc (length xs) = omega arith in
    let z_once = ap (λ m. once (nat_lt k m)) z in
    omega (arith, sum_by-cons (λ y. once (is_ticket_of l k y)) x xs)

-- of numbers from 0 on, each below their count is there once
pub times_from_zero : (l k : ℕ) (xs : List Plain) → numbered l 0 xs ≡ true → count_by (is_ticket_of l k) xs ≡ once (nat_lt k (length xs))
times_from_zero l k xs e =
    let z : 0 + length xs ≡ length xs = omega arith in
    let z_once = ap (λ m. once (nat_lt k m)) z in
    omega (arith, exact_times l 0 k xs e, once_below_zero k)

-- a lane's numbers from 0 on have no ticket of another lane
pub none_of_other_lane : (l m k : ℕ) (xs : List Plain) → numbered m 0 xs ≡ true → (m == l) ≡ false → count_by (is_ticket_of l k) xs ≡ 0
none_of_other_lane l m k xs e f = let a = ticket_once l k m 0 xs e in let b = ap once f in omega arith
