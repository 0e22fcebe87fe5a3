-- The runs of dots.
use Rattle.std.specs.Prelude.{ℕ, zero, suc, Bool, true, false, List, [], ◌∷◌}

-- the runs of a row with a light dot more at its left
abbrev pub light_before : List ℕ → List ℕ
light_before [] = []
light_before (w ∷ ws) = suc w ∷ ws

-- the same with a dark dot: it is one more of the first bar, if there is no light dot before that
abbrev pub dark_before : List ℕ → List ℕ
dark_before [] = []
dark_before (zero ∷ []) = 0 ∷ 1 ∷ 0 ∷ []
dark_before (zero ∷ w ∷ ws) = 0 ∷ suc w ∷ ws
dark_before (suc w ∷ ws) = 0 ∷ 1 ∷ suc w ∷ ws

-- the runs of dots
abbrev pub runs_of_dots : List Bool → List ℕ
runs_of_dots [] = 0 ∷ []
runs_of_dots (false ∷ dots) = light_before (runs_of_dots dots)
runs_of_dots (true ∷ dots) = dark_before (runs_of_dots dots)
