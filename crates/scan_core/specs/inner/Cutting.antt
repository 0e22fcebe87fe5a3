-- Runs that are cut out of dots.
use Rattle.std.specs.Prelude.{◌≡◌, ◌<◌, ◌≤◌, ◌+◌, ℕ, zero, suc, Bool, false, not, List, ◌++◌, drop, length, replicate, sum}
use Rattle.std.specs.List.{AllByRecursion}
use Rattle.scan_core.specs.Row.{IsRow, dots_from, dots_of}

-- the runs are the row with these dots
abbrev pub IsRowOf : List ℕ → List Bool → Type 0
IsRowOf runs dots = IsRow runs × (dots_of runs ≡ dots)

-- they are its first runs, and it has more
abbrev pub IsFrontOf : List ℕ → List Bool → Type 0
IsFrontOf runs dots = (rest : List ℕ) × (0 < length rest) × IsRowOf (runs ++ rest) dots

-- the colour of a run, by how many come before it
abbrev pub colour : Bool → ℕ → Bool
colour dark zero = dark
colour dark (suc n) = colour (not dark) n

-- the finished runs, and this many dots of the run that the last of n dots is in
pub record Cut (widths : List ℕ) (run : ℕ) (dark : Bool) (n : ℕ) (dots : List Bool) : Type 0 where
  pub joined : dots_from false widths ++ replicate run dark ≡ dots
  pub dark_is : dark ≡ colour false (length widths)
  pub each : AllByRecursion (λ w. 1 ≤ w) (drop 1 widths)
  pub begun : 0 < length widths → 0 < run
  pub total : sum widths + run ≡ n

-- the colour of a dot whose bit is 1 if it does not have this one
abbrev pub coloured : ℕ → Bool → Bool
coloured zero dark = dark
coloured (suc bit) dark = not dark
