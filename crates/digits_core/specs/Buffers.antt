-- Bytes in a buffer of the caller's.
use Rattle.std.specs.Prelude.{◌≡◌, ◌≤◌, ◌<◌, ◌+◌, ◌++◌, ℕ, List, drop, length, take}

-- a buffer with bytes in it from a place on, around them as it was
abbrev pub pasted : List ℕ → ℕ → List ℕ → List ℕ
pasted old at bytes = take at old ++ (bytes ++ drop (at + length bytes) old)

-- the count is that of the bytes, which stand at the front of the buffer if it has room for all of them, and else it stays as it was
pub record IsPut (bytes old new : List ℕ) (count : ℕ) : Type 0 where
  pub counted : count ≡ length bytes
  pub front : length bytes ≤ length old → new ≡ bytes ++ drop (length bytes) old
  pub unchanged : length old < length bytes → new ≡ old
