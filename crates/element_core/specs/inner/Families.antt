-- Families of AIs as the code keeps them.
use Rattle.std.specs.Prelude.{ℕ, Bool, true, false, ◌&&◌, List, [], ◌∷◌, length, take, nat_le, nat_lt, Option, Some, None, if◌then◌else◌}
use Rattle.element_core.specs.declared.family.AiFamily.{AiFamily}
use Rattle.element_core.specs.Table.{Family, Row, first_families, last_families}

-- the row of an AI of the family
abbrev pub row_in : Family → List ℕ → Row
row_in f ai = record { ai = ai; parts = f.parts; predefined = f.predefined; profile = f.profile }

-- the family as the table has it
abbrev pub family_of : AiFamily → Family
family_of f = record { least = f.least.now; greatest = f.greatest.now; parts = f.parts.now; predefined = f.predefined; profile = f.profile }

-- whether the text begins with an AI each of whose digits lies between those of the two
abbrev pub is_in_family : List ℕ → List ℕ → List ℕ → Bool
is_in_family [] greatest text = true
is_in_family (a ∷ least) [] text = false
is_in_family (a ∷ least) (z ∷ greatest) [] = false
is_in_family (a ∷ least) (z ∷ greatest) (b ∷ text) = nat_le a b && nat_le b z && is_in_family least greatest text

-- the row of the family's AI at the front of the text
abbrev pub row_with : AiFamily → List ℕ → Row
row_with f text = row_in (family_of f) (take (length f.least.now) text)

-- the row of the first family that has the AI
abbrev pub row_by : List ℕ → List AiFamily → Option Row
row_by text [] = None
row_by text (f ∷ fs) = if is_in_family f.least.now f.greatest.now text then Some (row_with f text) else row_by text fs

-- whether an AI of the family begins with these two digits
abbrev pub has_first_two : ℕ → ℕ → Family → Bool
has_first_two first second f = is_in_family (take 2 f.least) (take 2 f.greatest) (first ∷ second ∷ [])

-- the families among which those of this first byte are
abbrev pub families_from : ℕ → List Family
families_from first = if nat_lt first 53 then first_families else last_families
