-- What types, private contracts and proofs name beside `Days`.
use Rattle.std.specs.Prelude.{◌<◌, ◌==◌, ◌&&◌, ℕ, Bool, List, length, Option, slice_index}
use Rattle.std.specs.Char.{is_ascii_digit}
use Rattle.std.specs.Int.{IsInRange}
use Rattle.std.specs.List.{list_all}
use Rattle.element_core.specs.Days.{day_in, full_year, two}

-- the first six bytes are ASCII digits
abbrev pub AreSixDigits : List ℕ → Type 0
AreSixDigits text = (k : ℕ) → k < 6 → IsInRange 48 57 (slice_index text k)

-- the day that six digits name: year, month and day, two digits each
abbrev pub day_named : List ℕ → ℕ → Option (ℕ × ℕ × ℕ)
day_named six reference = day_in (full_year reference (two six 0)) (two six 2) (two six 4)

-- whether a text is eight ASCII digits
abbrev pub is_eight_digits : List ℕ → Bool
is_eight_digits text = (length text == 8) && list_all is_ascii_digit text

-- whether a text is six ASCII digits
abbrev pub is_six_digits : List ℕ → Bool
is_six_digits text = (length text == 6) && list_all is_ascii_digit text
