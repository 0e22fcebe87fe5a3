-- Where a number stands, as a pair.
use Rattle.std.specs.Prelude.{ℕ}
use Rattle.answer_core.specs.declared.number.NumberPlace.{NumberPlace}

-- how many digits of a currency stand before it, and how many of its digits are decimals
abbrev pub first_and_decimals : NumberPlace → ℕ × ℕ
first_and_decimals place = (place.first, place.decimals)
