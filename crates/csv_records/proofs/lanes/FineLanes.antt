-- The lanes of a block that are fine.
use Rattle.std.proofs.Common.{◌&&◌, ◌||◌, ◌+◌, ◌*◌, ◌<◌, ◌==◌, ◌≡◌, ◌∙◌, ◌∷◌, Bool, List, [], ap, arith, cond, false, length, map, nat_le, not, refl, replicate, take, true, ℕ, w8}
use mir.Syntax.{mask, le, eq, unsigned}
use borrow.Rule.Simd.Lanes.{act2}
use borrow.Table.Row.{s_int}
use lib.Lanes.{zip2, sel_l, top, mask_l, Each1}
use Rattle.std.specs.Char.{is_ascii_digit}
use Rattle.std.specs.List.{list_all}
use Rattle.std.proofs.lemmas.Bool.{and_from, and_parts, false≢true}
use Rattle.csv_records.specs.inner.LaneValues.{are_fine, digit_of, fine_lanes, is_fine}
use Rattle.csv_records.proofs.lanes.BlockLanes.{digit_test}

-- the lanes at most 9, and those that are spaces
abbrev pub nines : ℕ → List ℕ → List Bool
nines n xs = map (top 7) (zip2 (act2 (mask (le unsigned)) (s_int w8) (s_int w8) (s_int w8)) xs (replicate n 9))

abbrev pub blanks : ℕ → List ℕ → List Bool
blanks n xs = map (top 7) (zip2 (act2 (mask eq) (s_int w8) (s_int w8) (s_int w8)) xs (replicate n 32))

-- what the code computes
abbrev pub goods : ℕ → List ℕ → List ℕ → List ℕ → List ℕ → List ℕ → List ℕ
goods n ds bs one two three =
    let all = replicate n 255 in
    let none = replicate n 0 in
    sel_l (nines n ds) all (sel_l (blanks n bs) (sel_l (nines n one) (sel_l (nines n two) (sel_l (nines n three) none all) all) none) none)

abbrev m : Bool → Bool
m b = top 7 (cond b 255 0)

abbrev byte_if : Bool → ℕ
byte_if p = cond p 255 0

abbrev chosen : Bool → Bool → Bool → Bool → Bool → ℕ
chosen p s q r t = cond (m p) 255 (cond (m s) (cond (m q) (cond (m r) (cond (m t) 0 255) 255) 0) 0)

one_good : (p s q r t : Bool) → chosen p s q r t ≡ byte_if (p || (s && (q && not (r && t))))
one_good true s q r t = refl
one_good false false q r t = refl
one_good false true false r t = refl
one_good false true true false t = refl
one_good false true true true true = refl
one_good false true true true false = refl

pub goods_are : (xs : List ℕ) (c b a : ℕ) → c < 256 → b < 256 → a < 256 → Each1 (λ x. x < 256) xs →
    goods (length xs) (map digit_of xs) xs (take (length xs) (digit_of a ∷ map digit_of xs)) (take (length xs) (digit_of b ∷ digit_of a ∷ map digit_of xs))
    (take (length xs) (digit_of c ∷ digit_of b ∷ digit_of a ∷ map digit_of xs))
    ≡ fine_lanes c b a xs
goods_are [] c b a cb bb ab each = refl
goods_are (x ∷ xs) c b a cb bb ab each =
    let rest = goods (length xs) (map digit_of xs) xs (take (length xs) (digit_of x ∷ map digit_of xs)) (take (length xs) (digit_of a ∷ digit_of x ∷ map digit_of xs))
    (take (length xs) (digit_of b ∷ digit_of a ∷ digit_of x ∷ map digit_of xs)) in
    ap (λ h. h ∷ rest) (one_good (nat_le (digit_of x) 9) (x == 32) (nat_le (digit_of a) 9) (nat_le (digit_of b) 9) (nat_le (digit_of c) 9))
    ∙ ap (λ p. cond (p || ((x == 32) && (nat_le (digit_of a) 9 && not (nat_le (digit_of b) 9 && nat_le (digit_of c) 9)))) 255 0 ∷ rest) (digit_test x each.0)
    ∙ ap (λ p. cond (is_ascii_digit x || ((x == 32) && (p && not (nat_le (digit_of b) 9 && nat_le (digit_of c) 9)))) 255 0 ∷ rest) (digit_test a ab)
    ∙ ap (λ p. cond (is_ascii_digit x || ((x == 32) && (is_ascii_digit a && not (p && nat_le (digit_of c) 9)))) 255 0 ∷ rest) (digit_test b bb)
    ∙ ap (λ p. cond (is_ascii_digit x || ((x == 32) && (is_ascii_digit a && not (is_ascii_digit b && p)))) 255 0 ∷ rest) (digit_test c cb)
    ∙ ap (λ r. cond (is_fine c b a x) 255 0 ∷ r) (goods_are xs b a x bb ab each.0 each.1)

-- if all lanes are 255, the bytes are fine
lane_fine : (p : Bool) → (cond p 255 0 == 255) ≡ true → p ≡ true
lane_fine true e = refl
lane_fine false e = absurd (false≢true e)

pub all_fine : (xs : List ℕ) (c b a : ℕ) → list_all (λ x. x == 255) (fine_lanes c b a xs) ≡ true → are_fine c b a xs ≡ true
all_fine [] c b a e = refl
all_fine (x ∷ xs) c b a e =
    let parts = and_parts (cond (is_fine c b a x) 255 0 == 255) (list_all (λ x. x == 255) (fine_lanes b a x xs)) e in
    and_from (is_fine c b a x) (are_fine b a x xs) (lane_fine (is_fine c b a x) parts.0) (all_fine xs b a x parts.1)

-- if no bit is set of those that differ from 255, all are
pub none_differs : (xs : List ℕ) → mask_l (map (λ x. not (x == 255)) xs) ≡ 0 → list_all (λ x. x == 255) xs ≡ true
none_differs [] e = refl
none_differs (x ∷ xs) e = by_test (x == 255) (mask_l (map (λ x. not (x == 255)) xs)) (list_all (λ x. x == 255) xs) e (none_differs xs)
  where
    by_test : (p : Bool) (n : ℕ) (all : Bool) → cond (not p) 1 0 + 2 * n ≡ 0 → (n ≡ 0 → all ≡ true) → (p && all) ≡ true
    by_test true n all e f = f (omega (arith, e))
    by_test false n all e f = absurd (omega (arith, e))
