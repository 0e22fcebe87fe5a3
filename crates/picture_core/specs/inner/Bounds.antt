-- Bounds of signed numbers.
use Rattle.std.specs.Prelude.{ℕ, ℤ, pos, neg_ℤ, ◌≤ℤ◌}

-- the number is at most so far from 0
abbrev pub IsBounded : ℕ → ℤ → Type 0
IsBounded most z = (neg_ℤ (pos most) ≤ℤ z) × (z ≤ℤ pos most)
