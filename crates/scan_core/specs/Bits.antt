-- Dots packed in bytes, as a bitmap has them: the first in a byte's high bit, and 1 is dark.
use Rattle.std.specs.Prelude.{◌==◌, ◌-◌, ◌/◌, ◌%◌, ℕ, Bool, List, map, slice_index}
use Rattle.std.specs.Int.{bit_at}
use Rattle.std.specs.List.{range_with_len}

-- dot x of packed bytes
abbrev pub dot_at : List ℕ → ℕ → Bool
dot_at bytes x = bit_at (slice_index bytes (x / 8)) (7 - x % 8) == 1

-- this many dots, from one on
abbrev pub dots_at : List ℕ → ℕ → ℕ → List Bool
dots_at bytes from width = map (dot_at bytes) (range_with_len from width)
