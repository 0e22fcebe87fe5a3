-- Numbers at the front of texts.
use Rattle.std.specs.Prelude.{ℕ, ◌+◌, ◌-◌, ◌*◌, List, [], ◌∷◌, if◌then◌else◌}
use Rattle.element_core.specs.Elements.{is_digit}

-- the number of one or two digits at the front of a text
abbrev pub number_at_front : List ℕ → ℕ
number_at_front [] = 0
number_at_front (a ∷ []) = if is_digit a then a - 48 else 0
number_at_front (a ∷ b ∷ text) = if is_digit a then (if is_digit b then 10 * (a - 48) + (b - 48) else a - 48) else 0
