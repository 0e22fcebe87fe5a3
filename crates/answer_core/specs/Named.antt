-- The days and the times that elements name, in numbers.
use Rattle.std.specs.Prelude.{ℕ, Bool, true, false, List, [], ◌∷◌, Option, Some, None}
use Rattle.answer_core.specs.declared.named.Day.{Day}

-- 1 if it is so
abbrev pub bit : Bool → ℕ
bit true = 1
bit false = 0

-- a day; zeros if there is none
abbrev pub day_numbers : Option (ℕ × ℕ × ℕ) → Day
day_numbers None = record { year = 0; month = 0; day = 0 }
day_numbers (Some day) = record { year = day.0; month = day.1; day = day.2 }

-- the hours, the minutes and the seconds; zeros if there is no time
abbrev pub time_numbers : Option (List ℕ) → List ℕ
time_numbers None = 0 ∷ 0 ∷ 0 ∷ []
time_numbers (Some time) = time
