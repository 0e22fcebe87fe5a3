-- The characters of EAN and UPC symbols and their number sets (ISO/IEC 15420, symbol character encodation).
use Rattle.std.specs.Prelude.{ℕ, Bool, List, [], ◌∷◌, map, slice_index_or, if◌then◌else◌, ◌==◌, codes}
use Rattle.std.specs.List.{flat_map, zip}
use Rattle.digits_core.specs.Digits.{digits_of}
use Rattle.ean_code.specs.declared.number_sets.Character.{Character}
use Rattle.ean_code.specs.declared.number_sets.NumberSet.{NumberSet}
use Rattle.ean_code.specs.declared.number_sets.NumberSet.TheVariants.{A, B}

-- the widths of digits 0 to 9 in number set A, four each, space first; set C has the same widths, bar first
abbrev pub set_a : List (List ℕ)
set_a = map digits_of
    (codes "3211" ∷ codes "2221" ∷ codes "2122" ∷ codes "1411" ∷ codes "1132" ∷ codes "1231" ∷ codes "1114" ∷ codes "1312" ∷ codes "1213" ∷ codes "3112" ∷ [])

-- the widths of digits 0 to 9 in number set B, four each, space first
abbrev pub set_b : List (List ℕ)
set_b = map digits_of
    (codes "1123" ∷ codes "1222" ∷ codes "2212" ∷ codes "1141" ∷ codes "2311" ∷ codes "1321" ∷ codes "4111" ∷ codes "2131" ∷ codes "3121" ∷ codes "2113" ∷ [])

-- the widths of digits 0 to 9 in a number set left of the centre
abbrev pub widths_in_set : NumberSet → List (List ℕ)
widths_in_set A = set_a
widths_in_set B = set_b

-- the widths of a character left of the centre
abbrev pub left_widths : Character → List ℕ
left_widths c = slice_index_or (widths_in_set c.set) c.digit []

-- the widths of a digit right of the centre, in number set C
abbrev pub right_widths : ℕ → List ℕ
right_widths d = slice_index_or set_a d []

-- the digit in this number set
abbrev pub in_set : NumberSet → ℕ → Character
in_set s d = record { set = s; digit = d }

-- the number set: B if true, A if false
abbrev pub set_b_or_a : Bool → NumberSet
set_b_or_a of_b = if of_b then B else A

-- the character with this digit in number set B, or in A
abbrev pub character_of : Bool × ℕ → Character
character_of (of_b, d) = in_set (set_b_or_a of_b) d

-- digits as characters, each in its number set
abbrev pub characters_in : List NumberSet → List ℕ → List Character
characters_in row ds = map (λ (c : NumberSet × ℕ). record { set = c.0; digit = c.1 }) (zip row ds)

-- number sets from letters: B is set B, any other letter set A
abbrev pub sets_in : List ℕ → List NumberSet
sets_in letters = map (λ letter. if letter == 66 then B else A) letters

-- the number sets of the left six digits of an EAN-13; they alone encode its first digit
abbrev pub ean13_rows : List (List NumberSet)
ean13_rows = map sets_in
    (codes "AAAAAA" ∷ codes "AABABB" ∷ codes "AABBAB" ∷ codes "AABBBA" ∷ codes "ABAABB"
    ∷ codes "ABBAAB" ∷ codes "ABBBAA" ∷ codes "ABABAB" ∷ codes "ABABBA" ∷ codes "ABBABA" ∷ [])

-- the number sets of the left four digits of an EAN-8
abbrev pub ean8_row : List NumberSet
ean8_row = A ∷ A ∷ A ∷ A ∷ []

-- the number sets of the six digits of a UPC-E; they alone encode its check digit
abbrev pub upce_rows : List (List NumberSet)
upce_rows = map sets_in
    (codes "BBBAAA" ∷ codes "BBABAA" ∷ codes "BBAABA" ∷ codes "BBAAAB" ∷ codes "BABBAA"
    ∷ codes "BAABBA" ∷ codes "BAAABB" ∷ codes "BABABA" ∷ codes "BABAAB" ∷ codes "BAABAB" ∷ [])

-- the row of this digit
abbrev pub row_of : List (List NumberSet) → ℕ → List NumberSet
row_of rows d = slice_index_or rows d []

-- digits drawn in these number sets, left of the centre
abbrev pub left_part : List NumberSet → List ℕ → List ℕ
left_part row ds = flat_map left_widths (characters_in row ds)

-- digits drawn in number set C, right of the centre
abbrev pub right_part : List ℕ → List ℕ
right_part ds = flat_map right_widths ds
