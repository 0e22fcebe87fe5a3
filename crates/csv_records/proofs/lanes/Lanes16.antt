-- The values of lanes.
use Rattle.std.proofs.Common.{◌≡◌, ◌+◌, ◌*◌, ◌%◌, ◌≤◌, ◌<◌, ◌++◌, ◌∷◌, ◌∙◌, ap, arith, Bool, List, [], cond, drop, false, true, get_or, leb, length, length-append, map, replicate, take, ℕ, zero, suc, sym, refl, w8}
use mir.Syntax.{wrap_add, mask, le, unsigned}
use borrow.Rule.Simd.Lanes.{act2}
use borrow.Table.Row.{s_int}
use lib.Lanes.{zip2, sel_l, top}
use Rattle.std.proofs.lemmas.Bool.{leb-true}
use Rattle.std.proofs.lemmas.List.{drop_more, length-drop}
use lib.Seq.{take-append-le}
use Rattle.csv_records.specs.inner.LaneValues.{lane_value, lane_values}

-- elements one after another, by their places
abbrev pub places_from : ℕ → ℕ → List ℕ
places_from i zero = []
places_from i (suc n) = i ∷ places_from (i + 1) n

pub gotten : (n i : ℕ) (zs : List ℕ) → i + n ≤ length zs → map (λ k. get_or zs k 0) (places_from i n) ≡ take n (drop i zs)
gotten zero i zs low = refl
gotten (suc n) i zs low =
    ap (λ t. get_or zs i 0 ∷ t) (gotten n (i + 1) zs (omega (arith, low)))
    ∙ ap (take (suc n)) (sym (drop_more zs i 0 (omega (arith, low))))

-- what the code computes of lanes
abbrev add : List ℕ → List ℕ → List ℕ
add xs ys = zip2 (act2 wrap_add (s_int w8) (s_int w8) (s_int w8)) xs ys

abbrev tens_of : ℕ → List ℕ → List ℕ
tens_of n ys = sel_l (map (top 7) (zip2 (act2 (mask (le unsigned)) (s_int w8) (s_int w8) (s_int w8)) ys (replicate n 9))) ys (replicate n 0)

abbrev pub computed : ℕ → List ℕ → List ℕ → List ℕ
computed n xs ys =
    let t = tens_of n ys in
    let twice = add t t in
    let four = add twice twice in
    add xs (add (add four four) twice)

one_lane : (b : Bool) (x t : ℕ) → (b ≡ true → t ≤ 9) →
    (x + ((((cond (top 7 (cond b 255 0)) t 0 + cond (top 7 (cond b 255 0)) t 0) % 256 + (cond (top 7 (cond b 255 0)) t 0 + cond (top 7 (cond b 255 0)) t 0) % 256) % 256
    + ((cond (top 7 (cond b 255 0)) t 0 + cond (top 7 (cond b 255 0)) t 0) % 256 + (cond (top 7 (cond b 255 0)) t 0 + cond (top 7 (cond b 255 0)) t 0) % 256) % 256) % 256
    + (cond (top 7 (cond b 255 0)) t 0 + cond (top 7 (cond b 255 0)) t 0) % 256) % 256) % 256
    ≡ (x + 10 * cond b t 0) % 256
one_lane true x t small = let s = small refl in omega (arith, s)
one_lane false x t small = omega arith

pub lanes_computed : (n : ℕ) (xs ys : List ℕ) → length xs ≡ n → length ys ≡ n → computed n xs ys ≡ zip2 (λ x t. lane_value t x) xs ys
lanes_computed zero [] ys a b = refl
lanes_computed zero (x ∷ xs) ys a b = absurd (omega (arith, a))
lanes_computed (suc n) [] ys a b = absurd (omega (arith, a))
lanes_computed (suc n) (x ∷ xs) [] a b = absurd (omega (arith, b))
lanes_computed (suc n) (x ∷ xs) (t ∷ ys) a b =
    ap (λ h. h ∷ computed n xs ys) (one_lane (leb t 9) x t (leb-true t 9))
    ∙ ap (λ r. lane_value t x ∷ r) (lanes_computed n xs ys (omega (arith, a)) (omega (arith, b)))

-- the lanes moved by one and by two, side by side
pub side_by_side : (b a : ℕ) (ds : List ℕ) → zip2 (λ x t. lane_value t x) (take (length ds) (a ∷ ds)) (take (length ds) (b ∷ a ∷ ds)) ≡ lane_values b a ds
side_by_side b a [] = refl
side_by_side b a (d ∷ ds) = ap (λ r. lane_value b a ∷ r) (side_by_side a d ds)

-- the last one or two of sixteen, and what stands behind them
rest_of : (n : ℕ) (before ds : List ℕ) → n ≤ length before → drop n (before ++ ds) ≡ drop n before ++ ds
rest_of zero before ds low = refl
rest_of (suc n) [] ds low = absurd (omega (arith, low))
rest_of (suc n) (b ∷ before) ds low = rest_of n before ds (omega (arith, low))

none_left : (n : ℕ) (xs : List ℕ) → length xs ≡ n → drop n xs ≡ []
none_left zero [] e = refl
none_left zero (x ∷ xs) e = absurd (omega (arith, e))
none_left (suc n) [] e = absurd (omega (arith, e))
none_left (suc n) (x ∷ xs) e = none_left n xs (omega (arith, e))

pub last_one : (before ds : List ℕ) → length before ≡ 16 → drop 15 (before ++ ds) ≡ get_or before 15 0 ∷ ds
last_one before ds long =
    rest_of 15 before ds (omega (arith, long))
    ∙ ap (λ t. t ++ ds) (drop_more before 15 0 (omega (arith, long)) ∙ ap (λ t. get_or before 15 0 ∷ t) (none_left 16 before long))

pub last_two : (before ds : List ℕ) → length before ≡ 16 → drop 14 (before ++ ds) ≡ get_or before 14 0 ∷ get_or before 15 0 ∷ ds
last_two before ds long =
    rest_of 14 before ds (omega (arith, long))
    ∙ ap (λ t. t ++ ds) (drop_more before 14 0 (omega (arith, long))
    ∙ ap (λ t. get_or before 14 0 ∷ t) (drop_more before 15 0 (omega (arith, long)) ∙ ap (λ t. get_or before 15 0 ∷ t) (none_left 16 before long)))

pub last_three : (before ds : List ℕ) → length before ≡ 16 → drop 13 (before ++ ds) ≡ get_or before 13 0 ∷ get_or before 14 0 ∷ get_or before 15 0 ∷ ds
last_three before ds long =
    rest_of 13 before ds (omega (arith, long))
    ∙ ap (λ t. t ++ ds) (drop_more before 13 0 (omega (arith, long)) ∙ ap (λ t. get_or before 13 0 ∷ t) (drop_more before 14 0 (omega (arith, long))
    ∙ ap (λ t. get_or before 14 0 ∷ t) (drop_more before 15 0 (omega (arith, long)) ∙ ap (λ t. get_or before 15 0 ∷ t) (none_left 16 before long))))

pub get_or_map : (f : ℕ → ℕ) (xs : List ℕ) (i : ℕ) → i < length xs → get_or (map f xs) i 0 ≡ f (get_or xs i 0)
get_or_map f [] i low = absurd (omega (arith, low))
get_or_map f (x ∷ xs) zero low = refl
get_or_map f (x ∷ xs) (suc i) low = get_or_map f xs i (omega (arith, low))

pub same_lanes : (xs : List ℕ) → map (λ x. x) xs ≡ xs
same_lanes [] = refl
same_lanes (x ∷ xs) = ap (λ t. x ∷ t) (same_lanes xs)

-- eight lanes of a shuffle of a vector with itself
pub eight_of : (i : ℕ) (xs : List ℕ) → i + 8 ≤ length xs → map (λ k. get_or (map (λ x. x) xs ++ map (λ x. x) xs) k 0) (places_from i 8) ≡ take 8 (drop i xs)
eight_of i xs low =
    let wide = map (λ x. x) xs in
    let same : wide ≡ xs = same_lanes xs in
    let long : length wide ≡ length xs = ap length same in
    let room : i + 8 ≤ length (wide ++ wide) = omega (arith, low, long, length-append wide wide) in
    let part : 8 ≤ length (drop i wide) = omega (arith, low, long, length-drop i wide) in
    gotten 8 i (wide ++ wide) room
    ∙ ap (take 8) (rest_of i wide wide (omega (arith, low, long)))
    ∙ take-append-le 8 (drop i wide) wide part
    ∙ ap (λ l. take 8 (drop i l)) same
