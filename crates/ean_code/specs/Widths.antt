-- The widths of a symbol's bars and spaces, in modules (ISO/IEC 15420, symbol description).
use Rattle.std.specs.Prelude.{◌≡◌, ℕ, ◌+◌, ◌-◌, ◌*◌, ◌%◌, ◌≤◌, List, length}
use Rattle.std.specs.List.{AllByRecursion, fold}

-- each width is 1 to 4 modules
abbrev pub AreWidths : List ℕ → Type 0
AreWidths ws = AllByRecursion (λ w. (1 ≤ w) × (w ≤ 4)) ws

-- at most 595 such widths, an odd number: a symbol begins and ends with a bar
abbrev pub AreModules : List ℕ → Type 0
AreModules ws = (length ws ≤ 595) × (length ws % 2 ≡ 1) × AreWidths ws

-- widths as one number: two bits for each width minus one, the first highest
abbrev pub packed_widths : List ℕ → ℕ
packed_widths widths = fold (λ n w. 4 * n + (w - 1)) 0 widths
