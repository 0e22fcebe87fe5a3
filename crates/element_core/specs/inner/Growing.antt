-- A canonical text that grows.
use Rattle.std.specs.Prelude.{ℕ, Bool, List, [], ◌∷◌, if◌then◌else◌}
use Rattle.element_core.specs.Elements.{Entry, separator_for}

-- a separator or nothing
abbrev pub separator_if : Bool → List ℕ
separator_if separate = if separate then 29 ∷ [] else []

-- what stands between the last element and the next
abbrev pub last_gap : List Entry → List ℕ
last_gap [] = []
last_gap (e ∷ []) = separator_for e
last_gap (e ∷ f ∷ es) = last_gap (f ∷ es)
