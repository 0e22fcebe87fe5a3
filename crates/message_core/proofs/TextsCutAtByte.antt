-- The first part of a text that is cut at the bytes that pass a test.
use Rattle.std.proofs.Common.{◌≡◌, ◌<◌, ◌≤◌, ◌+◌, ◌-◌, ◌∙◌, ◌∷◌, Bool, List, [], ap, arith, drop, length, length-drop, sym, take, ℕ}
use Rattle.std.specs.List.{position_or_len, slice_split}
use Rattle.std.proofs.lemmas.List.{take_all}
use Rattle.std.proofs.lemmas.List.Splits.{slice_split_first, slice_split_none}
use Rattle.std.proofs.lemmas.List.Sums.{fails_before_first}

-- a text without such a byte is its only part
pub whole : (p : ℕ → Bool) (xs : List ℕ) → length xs ≤ position_or_len p xs → slice_split p xs ≡ xs ∷ []
whole p xs past = slice_split_none p xs (λ k d low. fails_before_first p xs k d (omega (arith, low, past)))

-- the first part ends at the first such byte
pub parted : (p : ℕ → Bool) (xs : List ℕ) (k : ℕ) → k ≡ position_or_len p xs → k < length xs
    → slice_split p xs ≡ take k xs ∷ slice_split p (take (length xs - (k + 1)) (drop (k + 1) xs))
parted p xs k at low =
    let high : position_or_len p xs < length xs = omega (arith, at, low) in
    slice_split_first p xs 0 high
    ∙ ap (λ n. take n xs ∷ slice_split p (drop (n + 1) xs)) (sym at)
    ∙ ap (λ ys. take k xs ∷ slice_split p ys) (sym (take_all (length xs - (k + 1)) (drop (k + 1) xs) (omega (arith, length-drop (k + 1) xs))))
