-- What functions inside name beside `Written`.
use Rattle.std.specs.Prelude.{◌/◌, ◌%◌, [], ◌∷◌, ℕ, List, map, if◌then◌else◌}
use Rattle.message_core.specs.Coding.{hex_digit}
use Rattle.answer_core.specs.Places.{entry_at}
use Rattle.answer_core.specs.Written.{Parted, is_unreserved}
use Rattle.answer_core.specs.declared.order.LinkOrder.{LinkOrder}

abbrev pub parted_of : List ℕ → LinkOrder → Parted
parted_of text order = record { path = map (entry_at text) order.path.items; query = map (entry_at text) order.query.items }

-- a byte, or its code
abbrev pub byte_code : ℕ → List ℕ
byte_code b = if is_unreserved b then b ∷ [] else 37 ∷ hex_digit (b / 16) ∷ hex_digit (b % 16) ∷ []
