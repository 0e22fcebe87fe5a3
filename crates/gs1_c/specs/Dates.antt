-- The lines of the days and times that elements name (GS1 General Specifications, section 7.12).
use Rattle.std.specs.Prelude.{◌≡◌, ◌==◌, ◌+◌, ◌/◌, ◌%◌, ℕ, List, [], ◌∷◌, ◌++◌, Option, Some, None, codes, drop, length, map, if◌then◌else◌}
use Rattle.std.specs.List.{join_with_byte}
use Rattle.digits_core.specs.Digits.{ascii_of}
use Rattle.element_core.specs.Elements.{Entry, entry_day, entry_time, size_fault}
use Rattle.element_core.specs.Faults.{element_fault_text}
use Rattle.element_core.specs.Pairs.{list_fault, or_else}
use Rattle.element_core.specs.Terms.{Terms}
use Rattle.element_core.specs.declared.fault.ElementFault.{ElementFault}
use Rattle.gs1_c.specs.Lines.{IsLineUnder}

-- what stands before the first `=` of a text
abbrev pub before_equals : List ℕ → List ℕ
before_equals [] = []
before_equals (b ∷ text) = if b == 61 then [] else b ∷ before_equals text

-- the pair that a text shows: the AI stands before the first `=`, and the value behind it
abbrev pub shown_pair : List ℕ → Entry
shown_pair text = record { ai = before_equals text; value = drop (length (before_equals text) + 1) text }

-- the first fault of such a text: its size, or that of the pair that it shows
abbrev pub shown_fault : Terms → List ℕ → Option ElementFault
shown_fault year text = or_else (size_fault text) (list_fault year (shown_pair text ∷ []))

-- a number below 100, in two digits
abbrev pub as_two_digits : ℕ → List ℕ
as_two_digits n = ascii_of (n / 10 ∷ n % 10 ∷ [])

-- a day, as `2026-12-31`
abbrev pub day_text : ℕ × ℕ × ℕ → List ℕ
day_text (year, month, day) = as_two_digits (year / 100) ++ join_with_byte 45 (as_two_digits (year % 100) ∷ as_two_digits month ∷ as_two_digits day ∷ [])

-- the hours, the minutes and the seconds of a time, as `23:59:00`
abbrev pub time_text : List ℕ → List ℕ
time_text time = join_with_byte 58 (map as_two_digits time)

-- `date`, a day and, if there is one, a time; or `none` if there is no day
abbrev pub dated_line : Option (ℕ × ℕ × ℕ) → Option (List ℕ) → List ℕ
dated_line None time = codes "none"
dated_line (Some day) None = codes "date " ++ day_text day
dated_line (Some day) (Some time) = (codes "date " ++ day_text day) ++ (32 ∷ time_text time)

-- the line of an element by its fault: the day and the time that it names, or why it is none
abbrev pub date_line_by : Terms → Entry → Option ElementFault → List ℕ
date_line_by terms e None = dated_line (entry_day terms e) (entry_time e)
date_line_by terms e (Some fault) = element_fault_text fault

-- the line of the day and the time of the element that a text shows
abbrev pub IsDateLine : ℕ → List ℕ → List ℕ → Type 0
IsDateLine number text line = IsLineUnder number (λ terms it. it ≡ date_line_by terms (shown_pair text) (shown_fault terms text)) line
