-- Interleaved 2 of 5, the encoding of ITF-14 (ISO/IEC 16390, symbol character encodation; GS1 General Specifications,
-- section 5.3). A narrow element is one module wide, a wide one three. Two of the five elements of a digit are wide.
use Rattle.std.specs.Prelude.{◌≡◌, ℕ, ◌⊎◌, List, [], ◌∷◌, map, slice_index_or, codes}
use Rattle.std.specs.List.{flat_map, zip, AllByRecursion}
use Rattle.digits_core.specs.Digits.{digits_of}

-- the five widths of digits 0 to 9, the same for bars and spaces
abbrev pub two_of_five : List (List ℕ)
two_of_five = map digits_of
    (codes "11331" ∷ codes "31113" ∷ codes "13113" ∷ codes "33111" ∷ codes "11313"
    ∷ codes "31311" ∷ codes "13311" ∷ codes "11133" ∷ codes "31131" ∷ codes "13131" ∷ [])

-- the five widths of a digit
abbrev pub five_widths : ℕ → List ℕ
five_widths d = slice_index_or two_of_five d []

-- alternating bars and spaces, a bar first
abbrev pub in_turn : List ℕ → List ℕ → List ℕ
in_turn bars spaces = flat_map (λ (p : ℕ × ℕ). p.0 ∷ p.1 ∷ []) (zip bars spaces)

-- two digits: the first in the bars, the second in the spaces
abbrev pub pair_widths : ℕ × ℕ → List ℕ
pair_widths (first, second) = in_turn (five_widths first) (five_widths second)

-- digits in pairs
abbrev pub in_pairs : List ℕ → List (ℕ × ℕ)
in_pairs (first ∷ second ∷ ds) = (first, second) ∷ in_pairs ds
in_pairs (d ∷ []) = []
in_pairs [] = []

-- the start and the stop pattern
abbrev pub itf_start : List ℕ
itf_start = 1 ∷ 1 ∷ 1 ∷ 1 ∷ []

abbrev pub itf_stop : List ℕ
itf_stop = 3 ∷ 1 ∷ 1 ∷ []

-- each is narrow or wide
abbrev pub AreTwoWidths : List ℕ → Type 0
AreTwoWidths widths = AllByRecursion (λ w. (w ≡ 1) ⊎ (w ≡ 3)) widths
