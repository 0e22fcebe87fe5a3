-- What types, private contracts and proofs name beside `Table`.
use Rattle.std.specs.Prelude.{ℕ, ◌+◌, Bool, false, ◌&&◌, ◌||◌, true, not, List, [], ◌∷◌, length, nat_le, if◌then◌else◌}
use Rattle.std.specs.List.{list_all}
use Rattle.element_core.specs.declared.part.Part.{Part}
use Rattle.element_core.specs.declared.part.Rule.{Rule}
use Rattle.element_core.specs.declared.part.Rule.TheVariants.{DayAndTime, DayOrMonthAndTime, DayPerhapsTime, LongDayAndTime}
use Rattle.element_core.specs.Table.{Row, least_of, is_7003_or_8008}

-- each AI begins with a digit
abbrev pub begins_with_digit : List ℕ → Bool
begins_with_digit [] = false
begins_with_digit (a ∷ ai) = nat_le 48 a && nat_le a 57

-- an element with its separator has at least four bytes
abbrev pub is_long_enough : Row → Bool
is_long_enough row = nat_le (if row.predefined then 4 else 3) (length row.ai + least_of row.parts)

-- whether values of a rule name a time, always or never
abbrev pub rule_timed : Bool → Rule → Bool
rule_timed true DayAndTime = true
rule_timed true _ = false
rule_timed false DayAndTime = false
rule_timed false DayOrMonthAndTime = false
rule_timed false DayPerhapsTime = false
rule_timed false LongDayAndTime = false
rule_timed false _ = true

-- whether values of these parts do
abbrev pub parts_timed : Bool → List Part → Bool
parts_timed timed (p ∷ []) = rule_timed timed p.rule
parts_timed timed _ = not timed

-- an AI of a time is 7003 or 8008, and each of these is one, in the profile
abbrev pub is_timed_exactly : Row → Bool
is_timed_exactly row = not row.profile || parts_timed (is_7003_or_8008 row.ai) row.parts

-- an AI has at most four digits
abbrev pub is_short_ai : Row → Bool
is_short_ai row = nat_le (length row.ai) 4

-- a value has five parts at most, and two in the profile
abbrev pub has_few_parts : Row → Bool
has_few_parts row = nat_le (length row.parts) (if row.profile then 2 else 5)

-- an AI is of digits, two at least
abbrev pub is_of_digits : Row → Bool
is_of_digits row = nat_le 2 (length row.ai) && list_all (λ a. nat_le 48 a && nat_le a 57) row.ai
