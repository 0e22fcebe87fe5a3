-- Rows of dots, as the widths of their runs: light first, then dark and light in turn, light last.
use Rattle.std.specs.Prelude.{◌≡◌, ℕ, ◌-◌, ◌%◌, ◌≤◌, ◌==◌, ◌&&◌, nat_le, not, Bool, false, List, [], ◌∷◌, ◌++◌, length, take, drop, sum, replicate, Option, Some, None, if◌then◌else◌}
use Rattle.std.specs.List.{AllByRecursion, list_all}
use Rattle.scan_core.specs.declared.fault.RunFault.{RunFault}
use Rattle.scan_core.specs.declared.fault.RunFault.TheVariants.{BadRuns, TooWide}

-- dots of this colour for the first run, and of the other and this in turn for those after it
abbrev pub dots_from : Bool → List ℕ → List Bool
dots_from dark [] = []
dots_from dark (width ∷ widths) = replicate width dark ++ dots_from (not dark) widths

-- the dots of a row from left to right, each true if it is dark
abbrev pub dots_of : List ℕ → List Bool
dots_of runs = dots_from false runs

-- the runs between the two light ends
abbrev pub inner : List ℕ → List ℕ
inner runs = take (length runs - 2) (drop 1 runs)

-- the widths are a row: light at both ends, a dot at least in each run between them, 65,535 dots at most
pub record IsRow (widths : List ℕ) : Type 0 where
  pub odd_number : length widths % 2 ≡ 1
  pub each_inner : AllByRecursion (λ width. 1 ≤ width) (inner widths)
  pub at_most : sum widths ≤ 65535

-- why widths are no row, if they are none: first their number and the inner ones, then their sum
abbrev pub runs_fault : List ℕ → Option RunFault
runs_fault widths =
    if (length widths % 2 == 1) && list_all (λ width. nat_le 1 width) (inner widths) then
    (if nat_le (sum widths) 65535 then None else Some TooWide)
    else Some BadRuns
