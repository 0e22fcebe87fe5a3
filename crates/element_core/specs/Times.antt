-- The days and the times that digits name (GS1 General Specifications, sections 3.8 and 3.9).
use Rattle.std.specs.Prelude.{◌==◌, ◌&&◌, ◌||◌, ◌+◌, ◌*◌, not, true, false, ℕ, Bool, List, [], ◌∷◌, length, take, drop, Option, Some, None, is_some, if◌then◌else◌, nat_le, nat_lt}
use Rattle.std.specs.Char.{is_ascii_digit}
use Rattle.std.specs.List.{list_all}
use Rattle.element_core.specs.Days.{day_in, day_of, two}
use Rattle.element_core.specs.declared.part.Rule.{Rule}
use Rattle.element_core.specs.declared.part.Rule.TheVariants.{DayOrMonth, Day, DayAndTime, DayOrMonthAndTime, DayPerhapsTime, OneOrTwoDays, LongDay, LongDayAndTime}

-- the day that six digits name by its number: none if it is 00
abbrev pub exact_day_of : List ℕ → ℕ → Option (ℕ × ℕ × ℕ)
exact_day_of six reference = if two six 4 == 0 then None else day_of six reference

-- the number of two ASCII digits, 0 if they are not written
abbrev pub two_or_zero : List ℕ → ℕ → ℕ
two_or_zero text at = if nat_le (at + 2) (length text) then two text at else 0

-- whether a text is HH, HHMM or HHMMSS, in ASCII digits
abbrev pub is_time_text : List ℕ → Bool
is_time_text text = ((length text == 2) || ((length text == 4) || (length text == 6))) && list_all is_ascii_digit text

-- a time of a day: hours 0 to 23, minutes and seconds 0 to 59
abbrev pub time_in : ℕ → ℕ → ℕ → Option (List ℕ)
time_in hours minutes seconds = if nat_lt hours 24 && (nat_lt minutes 60 && nat_lt seconds 60)
    then Some (hours ∷ minutes ∷ seconds ∷ []) else None

-- the hours, the minutes and the seconds that a text names, if it names a time
unfoldable pub time_of : List ℕ → Option (List ℕ)
time_of text = if is_time_text text then time_in (two_or_zero text 0) (two_or_zero text 2) (two_or_zero text 4) else None

-- the day that eight digits name, the year by all its four: none if the day is 00
unfoldable pub long_day_of : List ℕ → Option (ℕ × ℕ × ℕ)
long_day_of text = if two text 6 == 0 then None
    else if (length text == 8) && list_all is_ascii_digit text then day_in (100 * two text 0 + two text 2) (two text 4) (two text 6)
    else None

-- ---- what a part names by its rule

-- whether parts of this rule name a day
abbrev pub names_day : Rule → Bool
names_day DayOrMonth = true
names_day Day = true
names_day DayAndTime = true
names_day DayOrMonthAndTime = true
names_day DayPerhapsTime = true
names_day OneOrTwoDays = true
names_day LongDay = true
names_day LongDayAndTime = true
names_day _ = false

-- whether a part of this rule and this many bytes names a time
abbrev pub names_time : Rule → ℕ → Bool
names_time DayAndTime count = true
names_time DayOrMonthAndTime count = true
names_time DayPerhapsTime count = nat_lt 6 count
names_time LongDayAndTime count = true
names_time _ count = false

-- whether it names a second day
abbrev pub names_second_day : Rule → ℕ → Bool
names_second_day OneOrTwoDays count = nat_lt 6 count
names_second_day _ count = false

-- the day that a text names by the rule
abbrev pub day_named_by : Rule → List ℕ → ℕ → Option (ℕ × ℕ × ℕ)
day_named_by DayOrMonth text reference = day_of text reference
day_named_by Day text reference = exact_day_of text reference
day_named_by DayAndTime text reference = exact_day_of (take 6 text) reference
day_named_by DayOrMonthAndTime text reference = day_of (take 6 text) reference
day_named_by DayPerhapsTime text reference = exact_day_of (take 6 text) reference
day_named_by OneOrTwoDays text reference = exact_day_of (take 6 text) reference
day_named_by LongDay text reference = long_day_of text
day_named_by LongDayAndTime text reference = long_day_of (take 8 text)
day_named_by _ text reference = None

-- the time that it names
abbrev pub time_named_by : Rule → List ℕ → Option (List ℕ)
time_named_by DayAndTime text = time_of (drop 6 text)
time_named_by DayOrMonthAndTime text = time_of (drop 6 text)
time_named_by DayPerhapsTime text = time_of (drop 6 text)
time_named_by LongDayAndTime text = time_of (drop 8 text)
time_named_by _ text = None

-- the second day that it names
abbrev pub second_day_named_by : Rule → List ℕ → ℕ → Option (ℕ × ℕ × ℕ)
second_day_named_by OneOrTwoDays text reference = exact_day_of (drop 6 text) reference
second_day_named_by _ text reference = None

-- whether there are the days and the time that a text is to name
abbrev pub is_named : ℕ → Rule → List ℕ → Bool
is_named reference rule text =
    (not (names_day rule) || is_some (day_named_by rule text reference))
    && ((not (names_time rule (length text)) || is_some (time_named_by rule text))
    && (not (names_second_day rule (length text)) || is_some (exact_day_of (drop 6 text) reference)))
