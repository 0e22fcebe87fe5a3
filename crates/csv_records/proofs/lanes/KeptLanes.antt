-- The lanes at the set bits of a mask.
use Rattle.std.proofs.Common.{◌≡◌, ◌==◌, ◌&&◌, ◌||◌, ◌^◌, T, ltb, inl, inr, ◌+◌, ◌*◌, ◌/◌, ◌%◌, ◌<◌, ◌≤◌, ◌++◌, ◌∷◌, ◌∙◌, ap, arith, Bool, List, [], cond, drop, false, true, get_or, leb, length, length-append, map, replicate, take, ℕ, zero, suc, subst, sym, refl, w8}
use Rattle.std.proofs.lemmas.Bool.{and_parts, cases_lt, cond-false, eqb-true, lt-leb}
use native.Mathlib.Nat.{pow-suc, pow-zero, mul_assoc, mul_comm}
use Rattle.std.specs.List.{list_all}
use Rattle.std.proofs.lemmas.List.Folds.{list_all-append}
use Rattle.std.specs.Simd.Lanes.{Each1, digits_l}
use Rattle.std.proofs.lemmas.Simd.{SwzOk, SwzOk-from_Each1}
use Rattle.std.proofs.lemmas.List.{drop_more, length-map, take-map, take-take, take_at}
use Rattle.std.proofs.lemmas.Simd.{swz_l}
use Rattle.std.specs.Simd.Lanes.{mask_l}
use Rattle.csv_records.specs.inner.Kept.{entry, at_set_bits, look, places_in}

-- a swizzle of sixteen lanes looks each place up
pub swizzled : (xs : List ℕ) (i : ℕ) (js : List ℕ) → i + length js ≤ 16 → swz_l w8 16 xs i js ≡ map (look xs) js
swizzled xs i [] few = refl
swizzled xs i (j ∷ js) few =
    let first : 16 * (i / 16) + j ≡ j = omega (arith, few) in
    ap (λ n. cond (leb 128 j) 0 (get_or xs n 0) ∷ swz_l w8 16 xs (suc i) js) first
    ∙ ap (λ t. look xs j ∷ t) (swizzled xs (suc i) js (omega (arith, few)))

lowest : (b : Bool) (n : ℕ) → ((cond b 1 0 + 2 * n) % 2 ≡ cond b 1 0) × ((cond b 1 0 + 2 * n) / 2 ≡ n)
lowest true n = omega arith
lowest false n = omega arith

-- the places of the bools that are true
abbrev places_of : ℕ → List Bool → List ℕ
places_of from [] = []
places_of from (b ∷ bs) = cond b (from ∷ places_of (from + 1) bs) (places_of (from + 1) bs)

pub places_of_mask : (bs : List Bool) (from : ℕ) → places_in (length bs) from (mask_l bs) ≡ places_of from bs
places_of_mask [] from = refl
places_of_mask (true ∷ bs) from =
    let l = lowest true (mask_l bs) in
    ap (λ m. cond (m == 1) (from ∷ places_in (length bs) (from + 1) ((1 + 2 * mask_l bs) / 2)) (places_in (length bs) (from + 1) ((1 + 2 * mask_l bs) / 2))) l.0
    ∙ ap (λ m. from ∷ places_in (length bs) (from + 1) m) l.1 ∙ ap (λ t. from ∷ t) (places_of_mask bs (from + 1))
places_of_mask (false ∷ bs) from =
    let l = lowest false (mask_l bs) in
    ap (λ m. cond (m == 1) (from ∷ places_in (length bs) (from + 1) ((0 + 2 * mask_l bs) / 2)) (places_in (length bs) (from + 1) ((0 + 2 * mask_l bs) / 2))) l.0
    ∙ ap (λ m. places_in (length bs) (from + 1) m) l.1 ∙ places_of_mask bs (from + 1)

few_places : (bs : List Bool) (from : ℕ) → length (places_of from bs) ≤ length bs
few_places [] from = omega arith
few_places (true ∷ bs) from = omega (arith, few_places bs (from + 1))
few_places (false ∷ bs) from = omega (arith, few_places bs (from + 1))

-- what is looked up at them are the lanes that are kept
looked_up : (xs : List ℕ) (bs : List Bool) (from : ℕ) → from + length bs ≤ length xs → length xs ≤ 128 → map (look xs) (places_of from bs) ≡ at_set_bits bs (drop from xs)
looked_up xs [] from low few = refl
looked_up xs (true ∷ bs) from low few =
    let here : look xs from ≡ get_or xs from 0 = cond-false (leb 128 from) 0 (get_or xs from 0) (lt-leb 128 from (omega (arith, low, few))) in
    ap (λ n. n ∷ map (look xs) (places_of (from + 1) bs)) here
    ∙ ap (λ t. get_or xs from 0 ∷ t) (looked_up xs bs (from + 1) (omega (arith, low)) few)
    ∙ ap (at_set_bits (true ∷ bs)) (sym (drop_more xs from 0 (omega (arith, low))))
looked_up xs (false ∷ bs) from low few =
    looked_up xs bs (from + 1) (omega (arith, low)) few ∙ ap (at_set_bits (false ∷ bs)) (sym (drop_more xs from 0 (omega (arith, low))))

-- THE TABLE: of the lanes that an entry of eight bits names, the first are those that the bits keep
pub gathered : (xs : List ℕ) (bs : List Bool) (from : ℕ) → length bs ≡ 8 → from + 8 ≤ length xs → length xs ≤ 128
    → take (length (at_set_bits bs (drop from xs))) (map (look xs) (entry from (mask_l bs))) ≡ at_set_bits bs (drop from xs)
gathered xs bs from long low few =
    let ps = places_of from bs in
    let rest : List ℕ = replicate 8 (128 + from) in
    let places : places_in 8 from (mask_l bs) ≡ ps = ap (λ n. places_in n from (mask_l bs)) (sym long) ∙ places_of_mask bs from in
    let found : map (look xs) ps ≡ at_set_bits bs (drop from xs) = looked_up xs bs from (omega (arith, long, low)) few in
    let count : length (at_set_bits bs (drop from xs)) ≡ length ps = ap length (sym found) ∙ length-map ps (look xs) in
    let short : length ps ≤ 8 = omega (arith, few_places bs from, long) in
    ap (λ n. take n (map (look xs) (take 8 (places_in 8 from (mask_l bs) ++ rest)))) count
    ∙ ap (λ t. take (length ps) (map (look xs) (take 8 (t ++ rest)))) places
    ∙ take-map (look xs) (length ps) (take 8 (ps ++ rest))
    ∙ ap (map (look xs)) (take-take (length ps) 8 (ps ++ rest) short ∙ take_at ps rest (length ps) refl)
    ∙ found

-- the bytes of two words
pub two_words : (n k m lo hi : ℕ) → k ≡ n + m → lo < 256 ^ n → digits_l 256 k (lo + 256 ^ n * hi) ≡ digits_l 256 n lo ++ digits_l 256 m hi
two_words zero k m lo hi long low =
    let one : 256 ^ 0 ≡ 1 = pow-zero 256 in
    let whole : lo + 256 ^ 0 * hi ≡ hi = ap (λ p. lo + p * hi) one ∙ omega (arith, low, one) in
    let same_count : k ≡ m = omega (arith, long) in
    ap (λ j. digits_l 256 j (lo + 256 ^ 0 * hi)) same_count ∙ ap (digits_l 256 m) whole
two_words (suc n) zero m lo hi long low = absurd (omega (arith, long))
two_words (suc n) (suc k) m lo hi long low =
    let t = 256 ^ n * hi in
    let power : 256 ^ suc n ≡ 256 * 256 ^ n = pow-suc 256 n ∙ mul_comm (256 ^ n) 256 in
    let product : 256 ^ suc n * hi ≡ 256 * t = ap (λ p. p * hi) power ∙ mul_assoc 256 (256 ^ n) hi in
    let whole : lo + 256 ^ suc n * hi ≡ lo + 256 * t = ap (λ p. lo + p) product in
    let head : (lo + 256 * t) % 256 ≡ lo % 256 = omega arith in
    let tail : (lo + 256 * t) / 256 ≡ lo / 256 + t = omega arith in
    let less : lo / 256 < 256 ^ n = omega (arith, low, power) in
    ap (digits_l 256 (suc k)) whole
    ∙ ap (λ x. x ∷ digits_l 256 k ((lo + 256 * t) / 256)) head
    ∙ ap (λ x. lo % 256 ∷ digits_l 256 k x) tail
    ∙ ap (λ xs. lo % 256 ∷ xs) (two_words n k m (lo / 256) hi (omega (arith, long)) less)

-- each entry names lanes of sixteen, or none
abbrev pub is_place : ℕ → Bool
is_place p = leb 128 p || ltb p 16

abbrev pub are_places : ℕ → ℕ → Bool
are_places from mask = list_all is_place (entry from mask)

abbrev all_to : (ℕ → Bool) → ℕ → Bool
all_to p zero = true
all_to p (suc n) = p n && all_to p n

each_to : (p : ℕ → Bool) (n : ℕ) → all_to p n ≡ true → (i : ℕ) → i < n → p i ≡ true
each_to p zero h i l = absurd (omega (arith, l))
each_to p (suc n) h i l =
    let parts = and_parts (p n) (all_to p n) h in
    elim (cases_lt i n) [
      | inl z ↦ each_to p n parts.1 i z
      | inr g ↦ let e : n ≡ i = omega (arith, l, g) in ap p (sym e) ∙ parts.0
    ]

places_all : (ps : List ℕ) → list_all is_place ps ≡ true → Each1 (λ p. T (is_place p)) ps
places_all [] h = tt
places_all (p ∷ ps) h = let parts = and_parts (is_place p) (list_all is_place ps) h in (subst T (sym parts.0) tt, places_all ps parts.1)

pub length_entry_low : (k : ℕ) → k < 256 → length (entry 0 k) ≡ 8
length_entry_low k low = eqb-true (length (entry 0 k)) 8 (each_to (λ j. length (entry 0 j) == 8) 256 refl k low)

pub length_entry_high : (k : ℕ) → k < 256 → length (entry 8 k) ≡ 8
length_entry_high k low = eqb-true (length (entry 8 k)) 8 (each_to (λ j. length (entry 8 j) == 8) 256 refl k low)

-- an entry has eight places, so two have sixteen
pub length_entries : (m : ℕ) → m < 65536 → length (entry 0 (m % 256) ++ entry 8 (m / 256)) ≡ 16
length_entries m low =
    let lower : (length (entry 0 (m % 256)) == 8) ≡ true = each_to (λ k. length (entry 0 k) == 8) 256 refl (m % 256) (omega arith) in
    let upper : (length (entry 8 (m / 256)) == 8) ≡ true = each_to (λ k. length (entry 8 k) == 8) 256 refl (m / 256) (omega (arith, low)) in
    let a = eqb-true (length (entry 0 (m % 256))) 8 lower in
    let b = eqb-true (length (entry 8 (m / 256))) 8 upper in
    length-append (entry 0 (m % 256)) (entry 8 (m / 256)) ∙ omega (arith, a, b)

pub entries_ok : (m : ℕ) → m < 65536 → SwzOk w8 16 16 0 (entry 0 (m % 256) ++ entry 8 (m / 256))
entries_ok m low =
    let lower : are_places 0 (m % 256) ≡ true = each_to (are_places 0) 256 refl (m % 256) (omega arith) in
    let upper : are_places 8 (m / 256) ≡ true = each_to (are_places 8) 256 refl (m / 256) (omega (arith, low)) in
    let all : list_all is_place (entry 0 (m % 256) ++ entry 8 (m / 256)) ≡ true = list_all-append is_place (entry 0 (m % 256)) (entry 8 (m / 256)) ∙ rw (lower, upper) refl in
    let long : length (entry 0 (m % 256) ++ entry 8 (m / 256)) ≡ 16 = length_entries m low in
    SwzOk-from_Each1 w8 16 1 16 0 (entry 0 (m % 256) ++ entry 8 (m / 256)) refl (omega (arith, long)) (places_all _ all)
