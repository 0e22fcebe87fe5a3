-- Words of a line.
use Rattle.std.specs.Prelude.{ℕ, Bool, List, [], ◌∷◌, if◌then◌else◌}

-- what stands before the first byte that passes
abbrev pub up_to : (ℕ → Bool) → List ℕ → List ℕ
up_to p [] = []
up_to p (b ∷ line) = if p b then [] else b ∷ up_to p line
