-- The guard patterns of EAN and UPC (ISO/IEC 15420, symbol structure).
use Rattle.std.specs.Prelude.{ℕ, List, [], ◌∷◌}

-- the normal guard, the centre guard, and the special guard at the right of a UPC-E
abbrev pub normal_guard : List ℕ
normal_guard = 1 ∷ 1 ∷ 1 ∷ []

abbrev pub centre_guard : List ℕ
centre_guard = 1 ∷ 1 ∷ 1 ∷ 1 ∷ 1 ∷ []

abbrev pub special_guard : List ℕ
special_guard = 1 ∷ 1 ∷ 1 ∷ 1 ∷ 1 ∷ 1 ∷ []
