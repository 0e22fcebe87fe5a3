-- Where the numbers of values stand (GS1 General Specifications, sections 3.6, 3.7 and 3.9).
use Rattle.std.specs.Prelude.{ℕ, Bool, ◌==◌, ◌&&◌, ◌||◌, ◌+◌, ◌-◌, List, [], ◌∷◌, Option, Some, None, if◌then◌else◌}
use Rattle.std.specs.Int.{is_in_range}
use Rattle.element_core.specs.Elements.{is_digit}

-- behind 3: a measure, 31 to 36; an amount, a percentage or the price of a unit, 390, 392, 394 and 395
abbrev pub is_measured : ℕ → ℕ → Bool
is_measured b c = is_in_range 49 54 b || ((b == 57) && ((c == 48) || ((c == 50) || ((c == 52) || (c == 53)))))

-- an amount behind the three digits of its currency, 391 and 393
abbrev pub is_behind_currency : ℕ → ℕ → Bool
is_behind_currency b c = (b == 57) && ((c == 49) || (c == 51))

-- the number of an AI of four digits, whose last one says how many decimals it has
abbrev pub number_by : ℕ → ℕ → ℕ → Option (ℕ × ℕ)
number_by b c d =
    if is_digit d then (if is_measured b c then Some (0, d - 48) else if is_behind_currency b c then Some (3, d - 48) else None) else None

-- the place of the number in the values of an AI, if they have one: a count of 30 and 37 has no decimals, and of 8005, the price
-- of a unit, the standard does not say how many it has
abbrev pub number_at : List ℕ → Option (ℕ × ℕ)
number_at (a ∷ b ∷ []) = if (a == 51) && ((b == 48) || (b == 55)) then Some (0, 0) else None
number_at (a ∷ b ∷ c ∷ d ∷ []) =
    if a == 51 then number_by b c d
    else if (a == 56) && ((b == 48) && ((c == 48) && (d == 53))) then Some (0, 0) else None
number_at _ = None

-- the index of the number in a text, in a value that begins here; 255 if it has none
abbrev pub number_index : ℕ → Option (ℕ × ℕ) → ℕ
number_index value None = 255
number_index value (Some place) = value + place.0

-- how many of its digits are decimals; 255 if it has none
abbrev pub decimals_of : Option (ℕ × ℕ) → ℕ
decimals_of None = 255
decimals_of (Some place) = place.1
