-- Zero-suppressed numbers, as UPC-E carries them (GS1 General Specifications, section 5.2.2.4).
use Rattle.std.specs.Prelude.{◌≡◌, ◌==◌, ℕ, ◌<◌, ◌≤◌, List, [], ◌∷◌, length, nat_le, slice_index, if◌then◌else◌}
use Rattle.digits_core.specs.Digits.{AreDigits, IsChecked, padded}

-- the line of the zero-suppression table, from 0, that the sixth digit picks
abbrev pub upce_line : List ℕ → ℕ
upce_line six =
    let last = slice_index six 5 in if nat_le last 2 then 0 else if last == 3 then 1 else if last == 4 then 2 else 3

-- the twelve digits that six digits and a check digit stand for, by the line of the sixth
abbrev pub upce_expanded : List ℕ → ℕ → List ℕ
upce_expanded six check =
    let d : ℕ → ℕ = slice_index six in
    if nat_le (d 5) 2 then 0 ∷ d 0 ∷ d 1 ∷ d 5 ∷ 0 ∷ 0 ∷ 0 ∷ 0 ∷ d 2 ∷ d 3 ∷ d 4 ∷ check ∷ []
    else if d 5 == 3 then 0 ∷ d 0 ∷ d 1 ∷ d 2 ∷ 0 ∷ 0 ∷ 0 ∷ 0 ∷ 0 ∷ d 3 ∷ d 4 ∷ check ∷ []
    else if d 5 == 4 then 0 ∷ d 0 ∷ d 1 ∷ d 2 ∷ d 3 ∷ 0 ∷ 0 ∷ 0 ∷ 0 ∷ 0 ∷ d 4 ∷ check ∷ []
    else 0 ∷ d 0 ∷ d 1 ∷ d 2 ∷ d 3 ∷ d 4 ∷ 0 ∷ 0 ∷ 0 ∷ 0 ∷ d 5 ∷ check ∷ []

-- six digits and a check digit are a spelling of this GTIN
pub record IsUpceOf (six : List ℕ) (check : ℕ) (gtin : List ℕ) : Type 0 where
  pub six_digits : length six ≡ 6
  pub valid : AreDigits six
  pub check_valid : check < 10
  pub number : gtin ≡ padded (upce_expanded six check)
  pub checked : IsChecked gtin

-- they are the spelling of it that is printed: the one by the first line of the table that has one
pub record IsFirstUpceOf (six : List ℕ) (check : ℕ) (gtin : List ℕ) : Type 0 where
  pub spelling : IsUpceOf six check gtin
  pub first : (others : List ℕ) (last : ℕ) → IsUpceOf others last gtin → upce_line six ≤ upce_line others
