-- The day that six digits name (GS1 General Specifications, sections 3.4 and 7.12).
use Rattle.std.specs.Prelude.{◌==◌, ◌&&◌, ◌||◌, ◌+◌, ◌-◌, ◌*◌, ◌%◌, ◌<◌, not, ℕ, Bool, List, [], ◌∷◌, length, Option, Some, None, if◌then◌else◌, nat_le, slice_index, ◌≡◌, ◌↔◌, ◌≤◌, ⊤, pos}
use Rattle.std.specs.Char.{is_ascii_digit}
use Rattle.std.specs.List.{list_all}
use Rattle.jiff.specs.Types.{Date}

-- every fourth year, but of the centuries only every fourth
abbrev pub is_leap : ℕ → Bool
is_leap year = (year % 4 == 0) && (not (year % 100 == 0) || (year % 400 == 0))

-- the lengths of the months of a year
abbrev pub months : Bool → List ℕ
months leap = 31 ∷ (if leap then 29 else 28) ∷ 31 ∷ 30 ∷ 31 ∷ 30 ∷ 31 ∷ 31 ∷ 30 ∷ 31 ∷ 30 ∷ 31 ∷ []

-- the last day of a month
abbrev pub last_day : ℕ → ℕ → ℕ
last_day year month = slice_index (months (is_leap year)) (month - 1)

-- the year of two digits: the one that ends in them from 49 years before the reference year to 50 after it
abbrev pub full_year : ℕ → ℕ → ℕ
full_year reference digits = reference + 50 - (reference + 150 - digits) % 100

-- the number of two ASCII digits
abbrev pub two : List ℕ → ℕ → ℕ
two text at = 10 * (slice_index text at - 48) + (slice_index text (at + 1) - 48)

-- a day of a month of a year, where day 0 is the last
abbrev pub day_in : ℕ → ℕ → ℕ → Option (ℕ × ℕ × ℕ)
day_in year month day = if nat_le 1 month && (nat_le month 12 && nat_le day (last_day year month))
    then Some (year, month, if day == 0 then last_day year month else day) else None

-- the year, the month and the day that six ASCII digits name under a reference year, two digits each, if they name a day
unfoldable pub day_of : List ℕ → ℕ → Option (ℕ × ℕ × ℕ)
day_of text reference = if (length text == 6) && list_all is_ascii_digit text
    then day_in (full_year reference (two text 0)) (two text 2) (two text 4) else None

-- the date is that day, and there is none if the day is not
abbrev pub IsDay : Option Date → Option (ℕ × ℕ × ℕ) → Type 0
IsDay None None = ⊤
IsDay (Some d) (Some p) = (d.year ≡ pos p.0) × (d.month ≡ p.1) × (d.day ≡ p.2)
IsDay None (Some p) = ⊥
IsDay (Some d) None = ⊥

-- ---- laws

-- the year of two digits is the only one with them in the hundred years from 49 before the reference year on
abbrev pub YearWindow : Type 0
YearWindow = (reference digits year : ℕ) → 100 ≤ reference → digits < 100
    → (year ≡ full_year reference digits) ↔ ((year % 100 ≡ digits) × (reference ≤ year + 49) × (year ≤ reference + 50))

-- day 00 is the last day of its month
abbrev pub DayZero : Type 0
DayZero = (year month : ℕ) → 1 ≤ month → month ≤ 12
    → day_in year month 0 ≡ Some (year, month, last_day year month)
