-- EAN and UPC characters read backwards.
use Rattle.std.proofs.Common.{◌≡◌, ℕ, ◌<◌, List, [], ◌∷◌, ◌++◌, length, map, reverse, refl, ap, subst, ◌∙◌, get_or}
use Rattle.std.proofs.lemmas.List.{reverse-append, append_assoc, length-map, length-reverse}
use Rattle.std.specs.List.{flat_map}
use Rattle.digits_core.specs.Digits.{AreDigits}
use Rattle.ean_code.specs.NumberSets.{in_set, left_widths, right_widths, right_part}
use Rattle.ean_code.specs.Guards.{normal_guard}
use Rattle.ean_code.specs.declared.number_sets.Character.{Character}
use Rattle.ean_code.specs.declared.number_sets.NumberSet.{NumberSet}
use Rattle.ean_code.specs.declared.number_sets.NumberSet.TheVariants.{B}
use Rattle.ean_code.specs.inner.NumberSets.{AreCharacters, character_sets}
use Rattle.ean_code.proofs.Cells.{all_below-at, cells, cells-flat_map, AllByRecursion-reverse, reverse-flat_map, flat_map-along, map-along, same, same-true}
use Rattle.ean_code.proofs.Characters.{left_char, left_code, lefts}

pub turned : (g l c r h : List ℕ) → reverse (g ++ (l ++ (c ++ (r ++ h)))) ≡ reverse h ++ (reverse r ++ (reverse c ++ (reverse l ++ reverse g)))
turned g l c r h = simp (reverse-append, append_assoc)

-- a character of set C backwards is one of set B
pub c_is_b : (d : ℕ) → d < 10 → reverse (right_widths d) ≡ left_widths (in_set B d)
c_is_b d h = same-true _ _ (all_below-at (λ d. same (reverse (right_widths d)) (left_widths (in_set B d))) 10 refl d h)

pub rights-backward : (ds : List ℕ) → AreDigits ds → reverse (right_part ds) ≡ flat_map left_widths (map (in_set B) (reverse ds))
rights-backward ds valid =
    reverse-flat_map right_widths ds
    ∙ flat_map-along (λ d. d < 10) (λ d. reverse (right_widths d)) left_widths (in_set B) c_is_b (reverse ds) (AllByRecursion-reverse _ ds valid)

-- so the sets of a symbol that is read backwards are B alone
pub lefts-backward : (n : ℕ) (g l c ds : List ℕ) → length ds ≡ n → AreDigits ds
    → lefts n (reverse (g ++ (l ++ (c ++ (right_part ds ++ normal_guard))))) ≡ map (in_set B) (reverse ds)
lefts-backward n g l c ds e valid =
    let cs : List Character = map (in_set B) (reverse ds) in
    let ok : AreCharacters cs = map-along (λ d. d < 10) (λ (c : Character). c.digit < 10) (in_set B) (λ d h. h) (reverse ds) (AllByRecursion-reverse _ ds valid)
    in
    let count : length cs ≡ n = length-map (reverse ds) _ ∙ length-reverse ds ∙ e in
    let rest = reverse c ++ (reverse l ++ reverse g) in
    ap (lefts n) (turned g l c (right_part ds) normal_guard ∙ ap (λ r. normal_guard ++ (r ++ rest)) (rights-backward ds valid))
    ∙ subst (λ k. cells 4 left_char k (flat_map left_widths cs ++ rest) ≡ cs) count (cells-flat_map _ 4 left_widths left_char left_code cs rest ok)

-- the first set, of n characters
abbrev pub first_set : ℕ → List ℕ → NumberSet
first_set n ms = get_or (character_sets (lefts n ms)) 0 B

pub first-backward : (ds : List ℕ) → get_or (character_sets (map (in_set B) ds)) 0 B ≡ B
first-backward [] = refl
first-backward (d ∷ ds) = refl
