-- Characters of a symbol.
use Rattle.std.proofs.Common.{◌≡◌, ℕ, List, [], ◌∷◌, ◌++◌, length, refl, sym, ap, ◌∙◌, get_or}
use Rattle.std.specs.List.{flat_map}
use Rattle.ean_code.specs.NumberSets.{left_part, left_widths}
use Rattle.ean_code.specs.declared.number_sets.Character.{Character}
use Rattle.ean_code.specs.declared.number_sets.NumberSet.{NumberSet}
use Rattle.ean_code.specs.inner.NumberSets.{character_digits, character_sets}
use Rattle.ean_code.proofs.Joined.{of_their_sets}

-- characters of a row's number sets are drawn as their digits
pub drawn_as : (row : List NumberSet) (cs : List Character) → character_sets cs ≡ row → left_part row (character_digits cs) ≡ flat_map left_widths cs
drawn_as row cs e = ap (λ r. left_part r (character_digits cs)) (sym e) ∙ ap (flat_map left_widths) (of_their_sets cs)

pub last_of : (xs : List ℕ) (c : ℕ) (n : ℕ) → length xs ≡ n → get_or (xs ++ c ∷ []) n 0 ≡ c
last_of [] c n e = ap (λ k. get_or (c ∷ []) k 0) (sym e)
last_of (x ∷ xs) c n e = ap (λ k. get_or (x ∷ (xs ++ c ∷ [])) k 0) (sym e) ∙ last_of xs c (length xs) refl
