-- What types, private contracts and proofs name beside `Upce`.
use Rattle.std.specs.Prelude.{◌≡◌, ℕ, ◌≤◌, List, length, slice_index}
use Rattle.digits_core.specs.Digits.{AreDigits}
use Rattle.digits_core.specs.Upce.{upce_expanded, upce_line}

-- six digits stand for these twelve, the last of which is the check digit
pub record IsSix (six twelve : List ℕ) : Type 0 where
  pub six_digits : length six ≡ 6
  pub valid : AreDigits six
  pub number : twelve ≡ upce_expanded six (slice_index twelve 11)

-- and no six digits that stand for them are by an earlier line
pub record IsFirstSix (six twelve : List ℕ) : Type 0 where
  pub spelling : IsSix six twelve
  pub first : (others : List ℕ) → IsSix others twelve → upce_line six ≤ upce_line others
