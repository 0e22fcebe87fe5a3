-- The widths in dots at which the number of modules of a run changes.
use Rattle.std.specs.Prelude.{ℕ, ◌*◌, ◌<◌, ◌≤◌}

-- if W dots are N modules, runs of this many dots or more, and no others, are k thirds of a module or more
abbrev pub IsLeast : ℕ → ℕ → ℕ → ℕ → Type 0
IsLeast N W k limit = (w : ℕ) → (limit ≤ w → k * W ≤ 3 * (w * N)) × (w < limit → 3 * (w * N) < k * W)

-- if W dots are N modules, runs of this many dots or more, and no others, are more than k thirds of a module
abbrev pub IsPast : ℕ → ℕ → ℕ → ℕ → Type 0
IsPast N W k limit = (w : ℕ) → (limit ≤ w → k * W < 3 * (w * N)) × (w < limit → 3 * (w * N) ≤ k * W)

-- the least dots of a run that is near to 1, 2, 3 and 4 modules or above, and of one that is past these
pub record AreLimits (N W l1 l2 l3 l4 p1 p2 p3 p4 : ℕ) : Type 0 where
  pub one : IsLeast N W 2 l1
  pub two : IsLeast N W 5 l2
  pub three : IsLeast N W 8 l3
  pub four : IsLeast N W 11 l4
  pub past_one : IsPast N W 4 p1
  pub past_two : IsPast N W 7 p2
  pub past_three : IsPast N W 10 p3
  pub past_four : IsPast N W 13 p4
