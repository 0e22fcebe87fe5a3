-- Texts with no blank at their end.
use Rattle.std.proofs.Common.{◌≡◌, ◌-◌, ◌<◌, ◌∷◌, [], Bool, List, arith, false, get_or, length, refl, suc, sym, true, zero, ℕ}
use Rattle.std.specs.Char.{is_ascii_whitespace}
use Rattle.std.specs.List.{list_all}
use Rattle.std.specs.Str.{IsTrimAsciiEnd}
use Rattle.std.proofs.lemmas.Bool.{and_parts}
use Rattle.std.proofs.lemmas.List.{take_all}

-- a text of other bytes than blanks has none at its end
pub trimmed : (p : ℕ → Bool) → ((b : ℕ) → p b ≡ true → is_ascii_whitespace b ≡ false) → (xs : List ℕ) → 0 < length xs → list_all p xs ≡ true → IsTrimAsciiEnd xs xs
trimmed p out xs some h = (
  length xs,
  sym (take_all (length xs) xs (omega arith)),
  refl,
  omega arith,
  λ i past within. absurd (omega (arith, past, within)),
  λ _. last xs (length xs - 1) (omega (arith, some)) h,
) where
  last : (xs : List ℕ) (k : ℕ) → k < length xs → list_all p xs ≡ true → is_ascii_whitespace (get_or xs k 0) ≡ false
  last [] k low h = absurd (omega (arith, low))
  last (x ∷ xs) zero low h = out x (and_parts (p x) (list_all p xs) h).0
  last (x ∷ xs) (suc k) low h = last xs k (omega (arith, low)) (and_parts (p x) (list_all p xs) h).1
