-- The numbers of a grid in the arguments. Modules, widths and heights are in dots.
use Rattle.std.specs.Prelude.{ℕ}
use Rattle.std.specs.Int.{IsInRange}

-- the greatest of each; the least is 1
abbrev pub most_dots : ℕ
most_dots = 8

abbrev pub most_width : ℕ
most_width = 4096

abbrev pub most_height : ℕ
most_height = 1024

abbrev pub most_columns : ℕ
most_columns = 16

abbrev pub most_grid_rows : ℕ
most_grid_rows = 64

-- each of the five lies within its own range
abbrev pub AreGridNumbers : ℕ → ℕ → ℕ → ℕ → ℕ → Type 0
AreGridNumbers dots width height columns rows = IsInRange 1 most_dots dots × IsInRange 1 most_width width × IsInRange 1 most_height height
    × IsInRange 1 most_columns columns × IsInRange 1 most_grid_rows rows
