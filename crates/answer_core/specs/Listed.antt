-- Lists of words, as `01,02,310n`, in which n stands for any sign.
use Rattle.std.specs.Prelude.{ℕ, Bool, true, false, ◌==◌, ◌&&◌, ◌||◌, List, [], ◌∷◌}

-- the word is the first of the list
abbrev pub begins_like : List ℕ → List ℕ → Bool
begins_like [] [] = true
begins_like [] (s ∷ list) = s == 44
begins_like (a ∷ word) [] = false
begins_like (a ∷ word) (s ∷ list) = ((s == 110) || (a == s)) && begins_like word list

-- the word stands in the list behind a comma
abbrev pub is_behind_comma : List ℕ → List ℕ → Bool
is_behind_comma word [] = false
is_behind_comma word (s ∷ list) = ((s == 44) && begins_like word list) || is_behind_comma word list

abbrev pub is_listed : List ℕ → List ℕ → Bool
is_listed word list = begins_like word list || is_behind_comma word list
