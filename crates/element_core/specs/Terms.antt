-- What element strings are read by: a reference year, and every AI or the profile's alone.
use Rattle.std.specs.Prelude.{ℕ, Bool, true, false, ◌||◌, List, Option, find}
use Rattle.std.specs.List.{filter}
use Rattle.element_core.specs.Table.{Row, ai_rows, every_row, begins}

-- what element strings are read by: a reference year, and whether every AI
pub record Terms : Type 0 where
  pub year : ℕ
  pub every : Bool

-- the profile under a reference year
abbrev pub profile : ℕ → Terms
profile year = record { year = year; every = false }

-- every AI under a reference year
abbrev pub every_ai : ℕ → Terms
every_ai year = record { year = year; every = true }

-- whether a row is read by
abbrev pub is_read_by : Terms → Row → Bool
is_read_by terms row = terms.every || row.profile

-- the row of the profile whose AI the text begins with
abbrev pub profile_row_at : List ℕ → Option Row
profile_row_at text = find (λ row. begins row.ai text) ai_rows

-- the rows that are read by
abbrev pub rows_by : Terms → List Row
rows_by terms = filter (is_read_by terms) every_row

-- the row whose AI the text begins with, of those that are read by
abbrev pub row_by_terms : Terms → List ℕ → Option Row
row_by_terms terms text = find (λ row. begins row.ai text) (rows_by terms)
