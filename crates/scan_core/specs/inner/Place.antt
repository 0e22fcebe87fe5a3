-- The place of a row's widths.
use Rattle.std.specs.Prelude.{ℕ, List}

-- the widths in a place, and how many more of them have room in a memory of their own
pub record Place : Type 0 where
  pub list : List ℕ
  pub room : ℕ
