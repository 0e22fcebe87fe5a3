-- What a part of a value must be beside its characters (GS1 General Specifications, section 3).
use Rattle.std.specs.Prelude.{◌==◌, ◌&&◌, ◌||◌, ◌+◌, ◌-◌, ◌*◌, not, ℕ, Bool, true, false, List, [], ◌∷◌, length, take, nat_le, slice_index_or}
use Rattle.std.specs.Char.{is_ascii_digit}
use Rattle.std.specs.Int.{is_in_range}
use Rattle.std.specs.List.{list_all}
use Rattle.element_core.specs.Times.{two_or_zero}
use Rattle.element_core.specs.declared.part.Rule.{Rule}
use Rattle.element_core.specs.declared.part.Rule.TheVariants.{NonZero, NoLeadingZero, PieceOfTotal, Position, Percent, Latitude, Longitude, Media, CompanyPrefix, ModelNumber}

-- the number that these digits write after those of another number
abbrev pub number_after : ℕ → List ℕ → ℕ
number_after number [] = number
number_after number (b ∷ text) = number_after (10 * number + (b - 48)) text

-- a number above 0 (8001)
abbrev pub is_nonzero : List ℕ → Bool
is_nonzero text = not (list_all (λ b. b == 48) text)

-- 0, or a number whose first digit is not 0 (8011)
abbrev pub has_no_leading_zero : List ℕ → Bool
has_no_leading_zero text = (length text == 1) || not (slice_index_or text 0 0 == 48)

-- a piece, from 1 to the number of all pieces (8006 and 8026)
abbrev pub is_piece_of_total : List ℕ → Bool
is_piece_of_total text = nat_le 1 (two_or_zero text 0) && nat_le (two_or_zero text 0) (two_or_zero text 2)

-- a digit, "/" and a digit that is not less, both from 1 to 9 (7258)
abbrev pub is_position : List ℕ → Bool
is_position (a ∷ slash ∷ b ∷ []) = is_in_range 49 57 a && ((slash == 47) && (is_in_range 49 57 b && nat_le a b))
is_position _ = false

-- a hexadecimal digit
abbrev pub is_hex : ℕ → Bool
is_hex b = is_in_range 48 57 b || (is_in_range 65 70 b || is_in_range 97 102 b)

-- two hexadecimal digits stand first
abbrev pub begins_with_hex : List ℕ → Bool
begins_with_hex (a ∷ b ∷ text) = is_hex a && is_hex b
begins_with_hex _ = false

-- after each "%" stand two hexadecimal digits (RFC 3986, section 2.1)
abbrev pub is_percent_encoded : List ℕ → Bool
is_percent_encoded [] = true
is_percent_encoded (b ∷ text) = (not (b == 37) || begins_with_hex text) && is_percent_encoded text

-- a kind of medium, or one of a company's own from 80 on (7241)
abbrev pub is_media : List ℕ → Bool
is_media text = is_in_range 1 10 (two_or_zero text 0) || nat_le 80 (two_or_zero text 0)

-- four digits stand first, as in each GS1 Company Prefix
abbrev pub has_company_prefix : List ℕ → Bool
has_company_prefix text = nat_le 4 (length text) && list_all is_ascii_digit (take 4 text)

-- whether a text is as the rule says, which is none of a day
abbrev pub follows : Rule → List ℕ → Bool
follows NonZero text = is_nonzero text
follows NoLeadingZero text = has_no_leading_zero text
follows PieceOfTotal text = is_piece_of_total text
follows Position text = is_position text
follows Percent text = is_percent_encoded text
follows Latitude text = nat_le (number_after 0 text) 1800000000
follows Longitude text = nat_le (number_after 0 text) 3600000000
follows Media text = is_media text
follows CompanyPrefix text = has_company_prefix text
follows ModelNumber text = has_company_prefix text && not (list_all is_ascii_digit text)
follows _ text = true
