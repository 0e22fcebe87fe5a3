-- What lists of lanes' numbers are, by their sums under every weight: the laws `same_lists`, `received_first` and `claims_settle`.
use Rattle.std.proofs.Common.{◌≡◌, ⊎_elim, ℕ, ◌+◌, ◌≤◌, ◌==◌, not, nat_lt, cond, true, suc, List, [], ◌∷◌, ◌++◌, length, Some, refl, sym, ap, ◌∙◌, arith, ◌<◌}
use Rattle.std.specs.List.{count_by, list_all, slice_get, sum_by}
use Rattle.std.specs.Prelude.{take}
use Rattle.std.proofs.lemmas.List.{take_all}
use Rattle.std.proofs.lemmas.List.Sums.{sum_by-append, sum_by-cons}
use Rattle.std.proofs.lemmas.Bool.{and_parts, cases_lt, eq-eqb, ltb-false, not-true}
use Rattle.lane_core.specs.declared.job.Plain.{Plain}
use Rattle.lane_core.specs.Settling.{Account, Claim, ClaimsSettle, ReceivedFirst, SameLists, rises}
use Rattle.lane_core.specs.Tickets.{numbered}
use Rattle.lane_core.specs.Weights.{once}
use Rattle.lane_core.proofs.SameFacts.{is_same, same_from, same_self}
use Rattle.lane_core.proofs.TruthFacts.{true_from_once, here_or_there}
use Rattle.lane_core.proofs.WeightFacts.{sum_rest, sum_rest_le, sum_ones, sum_picked, sum_unpicked}
use Rattle.lane_core.proofs.TicketFacts.{no_later_same, numbered_parts, of_one_lane, sum_of_others, sum_of_own}

-- the first of a rising list is least
least : (x g : Plain) (gs : List Plain) → rises (g ∷ gs) ≡ true → 1 ≤ count_by (λ z. is_same x z) gs → g.number ≤ x.number
least x g [] e there = absurd (omega arith)
least x g (y ∷ ys) e there =
    let count = sum_by-cons (λ z. once (is_same x z)) y ys in
    let s = and_parts (not (nat_lt y.number g.number)) (rises (y ∷ ys)) e in
    let up = ltb-false y.number g.number (not-true (nat_lt y.number g.number) s.0) in
    ⊎_elim
    (λ (h : is_same x y ≡ true). let k = ap (λ (p : Plain). p.number) (same_from x y h) in omega arith)
    (λ (h : 1 ≤ count_by (λ z. is_same x z) ys). let k = least x y ys s.1 h in omega arith)
    (here_or_there (is_same x y) (count_by (λ z. is_same x z) ys) (omega arith))

tail_rises : (g : Plain) (gs : List Plain) → rises (g ∷ gs) ≡ true → rises gs ≡ true
tail_rises g [] e = refl
tail_rises g (y ∷ ys) e = (and_parts (not (nat_lt y.number g.number)) (rises (y ∷ ys)) e).1

-- a rising list with the items of a lane's numbers is that list
rising_whole : (l n : ℕ) (xs ys : List Plain) → numbered l n xs ≡ true → rises ys ≡ true → ((h : Plain → ℕ) → sum_by h xs ≡ sum_by h ys) → ys ≡ xs
rising_whole l n [] [] a up same = refl
rising_whole l n [] (y ∷ ys) a up same = absurd (let e = same (λ _. 1) in omega (arith, sum_by-cons (λ _. 1) y ys))
rising_whole l n (x ∷ xs) [] a up same = absurd (let e = same (λ _. 1) in omega (arith, sum_by-cons (λ _. 1) x xs))
rising_whole l n (x ∷ xs) (y ∷ ys) a up same =
    let p = numbered_parts l n x xs a in
    let at = p.number in
    let self : once (is_same x x) ≡ 1 = ap once (same_self x) in
    let x_there = same (λ z. once (is_same x z)) in
    let x_left = sum_by-cons (λ z. once (is_same x z)) x xs in
    let x_right = sum_by-cons (λ z. once (is_same x z)) y ys in
    let low : y.number ≤ n = ⊎_elim
    (λ (h : is_same x y ≡ true). let k = ap (λ (p : Plain). p.number) (same_from x y h) in omega arith)
    (λ (h : 1 ≤ count_by (λ z. is_same x z) ys). let k = least x y ys up h in omega arith)
    (here_or_there (is_same x y) (count_by (λ z. is_same x z) ys) (omega arith)) in
    let y_self : once (is_same y y) ≡ 1 = ap once (same_self y) in
    let y_there = same (λ z. once (is_same y z)) in
    let y_left = sum_by-cons (λ z. once (is_same y z)) x xs in
    let y_right = sum_by-cons (λ z. once (is_same y z)) y ys in
    let none = no_later_same l (suc n) y xs p.rest (omega arith) in
    let first : y ≡ x = same_from y x (true_from_once (is_same y x) (omega arith)) in
    let rest = rising_whole l (suc n) xs ys p.rest (tail_rises y ys up) (λ h. sum_rest h x y xs ys (sym first) (same h)) in
    λ i. first i ∷ rest i

-- two lists of a lane's numbers begin alike, where the first of the one is in the other
begin_alike : (l n : ℕ) (x p : Plain) (xs ps : List Plain) → numbered l n (x ∷ xs) ≡ true → numbered l n (p ∷ ps) ≡ true
    → 1 ≤ count_by (λ z. is_same p z) (x ∷ xs)
    → (p ≡ x) × (numbered l (suc n) xs ≡ true) × (numbered l (suc n) ps ≡ true)
begin_alike l n x p xs ps a b there =
    let count = sum_by-cons (λ z. once (is_same p z)) x xs in
    let all = numbered_parts l n x xs a in
    let front = numbered_parts l n p ps b in
    let at = front.number in
    let none = no_later_same l (suc n) p xs all.rest (omega arith) in
    (same_from p x (true_from_once (is_same p x) (omega arith)), all.rest, front.rest)

-- a lane's numbers that were polled, and the rest of them
front_and_rest : (l n : ℕ) (xs ps ys : List Plain) → numbered l n xs ≡ true → numbered l n ps ≡ true → rises ys ≡ true
    → ((h : Plain → ℕ) → sum_by h xs ≡ sum_by h (ps ++ ys)) → ps ++ ys ≡ xs
front_and_rest l n xs [] ys a b up same = rising_whole l n xs ys a up same
front_and_rest l n [] (p ∷ ps) ys a b up same = absurd (let e = same (λ _. 1) in omega (arith, sum_by-cons (λ _. 1) p (ps ++ ys)))
front_and_rest l n (x ∷ xs) (p ∷ ps) ys a b up same =
    let self : once (is_same p p) ≡ 1 = ap once (same_self p) in
    let there = same (λ z. once (is_same p z)) in
    let h = begin_alike l n x p xs ps a b (omega (arith, sum_by-cons (λ z. once (is_same p z)) p (ps ++ ys))) in
    let rest = front_and_rest l (suc n) xs ps ys h.1 h.2 up (λ g. sum_rest g x p xs (ps ++ ys) (sym h.0) (same g)) in
    λ i. h.0 i ∷ rest i

-- a lane's numbers among its numbers are the first of them
first_of : (l n : ℕ) (xs ps : List Plain) → numbered l n xs ≡ true → numbered l n ps ≡ true → ((h : Plain → ℕ) → sum_by h ps ≤ sum_by h xs)
    → take (length ps) xs ≡ ps
first_of l n xs [] a b less = refl
first_of l n [] (p ∷ ps) a b less = absurd (let e = less (λ _. 1) in omega (arith, sum_by-cons (λ _. 1) p ps))
first_of l n (x ∷ xs) (p ∷ ps) a b less =
    let self : once (is_same p p) ≡ 1 = ap once (same_self p) in
    let there = less (λ z. once (is_same p z)) in
    let h = begin_alike l n x p xs ps a b (omega (arith, sum_by-cons (λ z. once (is_same p z)) p ps)) in
    let rest = first_of l (suc n) xs ps h.1 h.2 (λ g. sum_rest_le g p x ps xs h.0 (less g)) in
    λ i. sym h.0 i ∷ rest i

pub same_lists : SameLists
same_lists l n xs ys a b same =
    sym (take_all (length ys) xs (omega (arith, same (λ _. 1), sum_ones xs, sum_ones ys))) ∙ first_of l n xs ys a b (λ h. omega (arith, same h))

-- of several, each with rows of its own lane, the one of the lane has the sum of all rows of the lane
sum_of_lane : {S : Type 0} (lane : S → ℕ) (rows : S → List Plain) (ss : List S) (i : ℕ) (s : S) (h : Plain → ℕ) → slice_get ss i ≡ Some s
    → ((j : ℕ) (u : S) → slice_get ss j ≡ Some u → list_all (λ x. x.lane == lane u) (rows u) ≡ true)
    → count_by (λ u. lane u == lane s) ss ≤ 1
    → sum_by (λ u. sum_by (λ x. cond (x.lane == lane s) (h x) 0) (rows u)) ss ≡ sum_by h (rows s)
sum_of_lane lane rows ss i s h at own one =
    sum_picked (λ u. sum_by (λ (x : Plain). cond (x.lane == lane s) (h x) 0) (rows u)) (λ u. lane u == lane s) ss i s at
    (λ j u e no. sum_of_others (lane s) (lane u) h (rows u) (own j u e) no) one (eq-eqb (lane s) (lane s) refl)
    ∙ sum_of_own (lane s) h (rows s) (own i s at)

pub received_first : ReceivedFirst
received_first accounts out back one less i a e =
    first_of a.lane 0 a.submitted a.received (out i a e) (back i a e) (λ h.
    let p = sum_of_lane (λ (u : Account). u.lane) (λ (u : Account). u.submitted) accounts i a h e
    (λ j u f. of_one_lane u.lane 0 u.submitted (out j u f)) (one a.lane) in
    let q = sum_of_lane (λ (u : Account). u.lane) (λ (u : Account). u.received) accounts i a h e
    (λ j u f. of_one_lane u.lane 0 u.received (back j u f)) (one a.lane) in
    omega (arith, p, q, less (λ x. cond (x.lane == a.lane) (h x) 0)))

-- where no item is the lane's, the lane's sum is 0
none_counted : (l : ℕ) (h : Plain → ℕ) (xs : List Plain) → count_by (λ x. x.lane == l) xs ≡ 0 → sum_by (λ x. cond (x.lane == l) (h x) 0) xs ≡ 0
none_counted l h xs e = sum_unpicked (λ (x : Plain). cond (x.lane == l) (h x) 0) (λ (x : Plain). x.lane == l) xs (λ j x at no. ap (λ b. cond b (h x) 0) no) e

pub claims_settle : ClaimsSettle
claims_settle claims found dropped each one all_found all_given i c at =
    let mine = each i c at in
    let sum : (h : Plain → ℕ) → sum_by h c.submitted ≡ (sum_by h c.polled + sum_by h c.given) + sum_by (λ x. cond (x.lane == c.lane) (h x) 0) dropped = λ h.
    let cut : Plain → ℕ = λ x. cond (x.lane == c.lane) (h x) 0 in
    let p = sum_of_lane (λ (u : Claim). u.lane) (λ (u : Claim). u.submitted) claims i c h at
    (λ j u e. of_one_lane u.lane 0 u.submitted (each j u e).0.submitted) (one c.lane) in
    let q = sum_of_lane (λ (u : Claim). u.lane) (λ (u : Claim). u.polled) claims i c h at
    (λ j u e. of_one_lane u.lane 0 u.polled (each j u e).0.polled) (one c.lane) in
    let r = sum_of_lane (λ (u : Claim). u.lane) (λ (u : Claim). u.given) claims i c h at (λ j u e. (each j u e).0.own) (one c.lane) in
    omega (arith, p, q, r, all_found cut, all_given cut) in
    let lost = count_by (λ (x : Plain). x.lane == c.lane) dropped in
    let counts = sum (λ _. 1) in
    let none : lost ≡ 0 = ⊎_elim
    (λ (e : 0 < lost). mine.1 (omega (arith, counts, sum_ones c.submitted, sum_ones c.polled, sum_ones c.given)))
    (λ (e : lost ≤ 0). omega arith)
    (cases_lt 0 lost) in
    front_and_rest c.lane 0 c.submitted c.polled c.given mine.0.submitted mine.0.polled mine.0.rising
    (λ h. omega (arith, sum h, none_counted c.lane h dropped none, sum_by-append h c.polled c.given))
