-- Digits, as numbers below ten, and the GS1 check digit (GS1 General Specifications, section 7.9).
use Rattle.std.specs.Prelude.{◌≡◌, ℕ, ◌+◌, ◌-◌, ◌*◌, ◌%◌, ◌<◌, ◌≤◌, List, [], ◌∷◌, ◌++◌, length, map, replicate}
use Rattle.std.specs.List.{AllByRecursion}
use Rattle.std.proofs.Common.{refl, ap₂}
use Rattle.std.proofs.Math.Nat.{sub-add_cancel}

-- each is a digit
abbrev pub AreDigits : List ℕ → Type 0
AreDigits ds = AllByRecursion (λ d. d < 10) ds

-- the text is ASCII digits
abbrev pub AreAsciiDigits : List ℕ → Type 0
AreAsciiDigits text = AllByRecursion (λ b. (48 ≤ b) × (b < 58)) text

-- the digits that an ASCII text shows
abbrev pub digits_of : List ℕ → List ℕ
digits_of text = map (λ b. b - 48) text

-- the ASCII text of digits
abbrev pub ascii_of : List ℕ → List ℕ
ascii_of ds = map (λ d. d + 48) ds

-- a text of digits is the text of the digits that it shows
pub ascii_of-digits_of : (text : List ℕ) → AreAsciiDigits text → ascii_of (digits_of text) ≡ text
ascii_of-digits_of [] h = refl
ascii_of-digits_of (b ∷ text) h = ap₂ (λ c cs. c ∷ cs) (sub-add_cancel h.0.0) (ascii_of-digits_of text h.1)

-- the weight of a digit with this many after it: 1 for the last, then 3 and 1 in turn
abbrev pub weight : ℕ → ℕ
weight after = 1 + 2 * (after % 2)

-- the digits, each times its weight
abbrev pub weighted : List ℕ → ℕ
weighted [] = 0
weighted (d ∷ ds) = weight (length ds) * d + weighted ds

-- the last digit is the right check digit
abbrev pub IsChecked : List ℕ → Type 0
IsChecked ds = weighted ds % 10 ≡ 0

-- the digits with zeros before them, as a GTIN of 14
abbrev pub padded : List ℕ → List ℕ
padded ds = replicate (14 - length ds) 0 ++ ds
