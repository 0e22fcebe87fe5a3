-- The weighted sum, digit by digit.
use Rattle.std.proofs.Common.{sym, ◌≡◌, ℕ, zero, suc, ◌+◌, ◌-◌, ◌*◌, ◌%◌, ◌<◌, List, [], ◌∷◌, ◌++◌, length, drop, replicate, refl, ap, ◌∙◌, arith, get_or, length-append, inl, inr, ◌≤◌}
use Rattle.std.proofs.lemmas.Bool.{cases_lt}
use Rattle.std.proofs.lemmas.List.{drop_more, length-drop}
use Rattle.digits_core.specs.Digits.{weight, weighted, IsChecked, padded}

-- the sum of the rest, one digit on
pub weighted_more : (ds : List ℕ) (i w : ℕ) → i < length ds → w ≡ 1 + 2 * ((length ds + 1 + i) % 2)
    → weighted (drop i ds) ≡ w * get_or ds i 0 + weighted (drop (i + 1) ds)
weighted_more ds i w h e =
    let after : length (drop (i + 1) ds) ≡ length ds - (i + 1) = length-drop (i + 1) ds in
    let same : weight (length (drop (i + 1) ds)) ≡ w = omega arith in
    ap weighted (drop_more ds i 0 h) ∙ ap (λ k. k * get_or ds i 0 + weighted (drop (i + 1) ds)) same

-- the last digit counts once
pub weighted-last : (ds : List ℕ) (last : ℕ) → weighted (ds ++ last ∷ []) ≡ weighted (ds ++ 0 ∷ []) + last
weighted-last [] last = omega arith
weighted-last (d ∷ ds) last =
    let more = weighted-last ds last in
    let long = length-append ds (last ∷ []) in
    let short = length-append ds (0 ∷ []) in
    rw (more, long, short) (omega arith)

-- zeros weigh nothing
pub weighted-zeros : (n : ℕ) (ds : List ℕ) → weighted (replicate n 0 ++ ds) ≡ weighted ds
weighted-zeros zero ds = refl
weighted-zeros (suc n) ds = let more = weighted-zeros n ds in omega arith

pub checked_padded : (ds : List ℕ) → IsChecked ds → IsChecked (padded ds)
checked_padded ds h = ap (λ n. n % 10) (weighted-zeros (14 - length ds) ds) ∙ h

-- a digit weighs at most 27
pub weighs_little : (w d r : ℕ) → w ≡ 1 + 2 * (r % 2) → d < 10 → w * d ≤ 27
weighs_little w d r e h =
    elim (cases_lt (r % 2) 1) [
      | inl even ↦ let one : w ≡ 1 = omega arith in rw one (omega arith)
      | inr odd ↦ let three : w ≡ 3 = omega arith in rw three (omega arith)
    ]

-- two last digits after the same payload are the same
pub one_check : (sum a b : ℕ) → (sum + a) % 10 ≡ 0 → (sum + b) % 10 ≡ 0 → a < 10 → b < 10 → a ≡ b
one_check sum a b h k la lb = omega arith

pub checked_unpadded : (ds : List ℕ) → IsChecked (padded ds) → IsChecked ds
checked_unpadded ds h = ap (λ n. n % 10) (sym (weighted-zeros (14 - length ds) ds)) ∙ h
