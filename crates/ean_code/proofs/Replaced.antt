-- A digit that was replaced by another leaves a wrong check digit.
use Rattle.std.proofs.Common.{◌≡◌, ◌≢◌, ℕ, zero, suc, ◌+◌, ◌*◌, ◌%◌, ◌<◌, List, [], ◌∷◌, length, set, inl, inr, refl, sym, ap, subst, arith, get_or}
use Rattle.std.proofs.lemmas.Bool.{cases_lt}
use Rattle.std.proofs.lemmas.List.{length-set}
use Rattle.digits_core.specs.Digits.{AreDigits, IsChecked, padded, weight, weighted}
use Rattle.ean_code.proofs.Characters.{digit_at}
use Rattle.ean_code.proofs.Texts.{checked_unpadded}

replaced : (ds : List ℕ) (k d : ℕ) → k < length ds
    → weighted (set ds k d) + (1 + 2 * ((length ds + 1 + k) % 2)) * get_or ds k 0 ≡ weighted ds + (1 + 2 * ((length ds + 1 + k) % 2)) * d
replaced [] k d h = absurd (omega arith)
replaced (x ∷ ds) zero d h =
    let same : (suc (length ds) + 1 + zero) % 2 ≡ length ds % 2 = omega arith in rw same (omega arith)
replaced (x ∷ ds) (suc k) d h =
    let rest = replaced ds k d (omega arith) in
    let same : (suc (length ds) + 1 + suc k) % 2 ≡ (length ds + 1 + k) % 2 = omega arith in
    let long = length-set ds k d in
    let factor : weight (length (set ds k d)) * x ≡ weight (length ds) * x = ap (λ n. weight n * x) long in rw same (omega arith)

-- sums that differ by one or three times a gap below ten
ten_apart : (m n w x d r : ℕ) → w ≡ 1 + 2 * (r % 2) → m + w * x ≡ n + w * d → m % 10 ≡ 0 → n % 10 ≡ 0 → x < 10 → d < 10 → x ≡ d
ten_apart m n w x d r e h p q a b =
    elim (cases_lt (r % 2) 1) [
      | inl even ↦ let one : w ≡ 1 = omega arith in let f = subst (λ w. m + w * x ≡ n + w * d) one h in omega arith
      | inr odd ↦ let three : w ≡ 3 = omega arith in let f = subst (λ w. m + w * x ≡ n + w * d) three h in omega arith
    ]

-- a digit replaced by another leaves a wrong sum
pub noticed : (ds : List ℕ) (k d : ℕ) → k < length ds → get_or ds k 0 < 10 → d < 10 → IsChecked ds → IsChecked (set ds k d) → d ≡ get_or ds k 0
noticed ds k d h old new c e =
    sym (ten_apart (weighted (set ds k d)) (weighted ds) (1 + 2 * ((length ds + 1 + k) % 2)) (get_or ds k 0) d (length ds + 1 + k) refl (replaced ds k d h) e c
    old new)

-- of a number with zeros before it
pub unpadded : (ds gtin : List ℕ) → gtin ≡ padded ds → IsChecked gtin → IsChecked ds
unpadded ds gtin e h = checked_unpadded ds (subst IsChecked e h)

pub noticed_padded : (ds gtin other : List ℕ) (k d : ℕ) → AreDigits ds → gtin ≡ padded ds → IsChecked gtin → k < length ds → d < 10 → d ≢ get_or ds k 0
    → other ≡ padded (set ds k d) → IsChecked other → ⊥
noticed_padded ds gtin other k d v e c h small differs f o =
    differs (noticed ds k d h (digit_at k ds v h) small (unpadded ds gtin e c) (unpadded (set ds k d) other f o))
