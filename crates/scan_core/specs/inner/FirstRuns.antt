-- The first runs of dots.
use Rattle.std.specs.Prelude.{◌≡◌, ◌<◌, ℕ, true, false, List, length, take}
use Rattle.scan_core.specs.declared.dots.FirstRuns.{FirstRuns}

-- these are the first of the runs: all, or 1,195 of more
pub record AreFirst (all : List ℕ) (f : FirstRuns) : Type 0 where
  pub front : f.widths.items ≡ take (length f.widths.items) all
  pub whole : f.more ≡ false → length f.widths.items ≡ length all
  pub cut : f.more ≡ true → length f.widths.items ≡ 1195
  pub behind : f.more ≡ true → 1195 < length all
