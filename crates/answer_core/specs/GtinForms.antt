-- The GTIN of an answer, and the digits that it is written with (GS1 General Specifications, section 7.9).
use Rattle.std.specs.Prelude.{ℕ, ◌==◌, ◌&&◌, ◌-◌, List, [], Option, Some, None, drop, length, slice_get, take, if◌then◌else◌}
use Rattle.digits_core.specs.Gtins.{is_gtin_length}
use Rattle.answer_core.specs.GtinUses.{are_zeros}
use Rattle.answer_core.specs.Places.{entry_at}
use Rattle.answer_core.specs.declared.answer.Answer.{Answer}
use Rattle.answer_core.specs.declared.place.Place.{Place}

abbrev pub value_at : List ℕ → Option Place → List ℕ
value_at text None = []
value_at text (Some p) = (entry_at text p).value

-- the value of the element of AI 01 that an answer names; none if it names none
abbrev pub gtin_in : Answer → List ℕ
gtin_in a = value_at (take a.length a.text) (slice_get (take a.count a.elements) a.gtin)

-- the last digits of 14, so many, if zeros alone stand before them
abbrev pub short_gtin : ℕ → List ℕ → List ℕ
short_gtin count digits =
    if (length digits == 14) && is_gtin_length count
    then (if are_zeros (take (14 - count) digits) then drop (14 - count) digits else [])
    else []
