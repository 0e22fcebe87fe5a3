-- The characters that check the others of a text.
use Rattle.std.specs.Prelude.{◌==◌, ◌&&◌, ◌+◌, ◌-◌, ◌*◌, ◌/◌, ◌%◌, ℕ, Bool, true, false, List, [], ◌∷◌, length, take, drop, nat_le, bytes_eq, codes, slice_index_or, if◌then◌else◌}
use Rattle.std.specs.Char.{is_ascii_digit}
use Rattle.std.specs.Int.{is_in_range}
use Rattle.digits_core.specs.Digits.{digits_of, weighted}
use Rattle.element_core.specs.declared.part.Check.{Check}
use Rattle.element_core.specs.declared.part.Check.TheVariants.{Unchecked, Digit, Characters, Iban}

-- the place of a character among the 82, from 0 on (GS1 General Specifications, section 7.9.5)
abbrev pub character_value : ℕ → ℕ
character_value b =
    if nat_le b 34 then b - 33
    else if nat_le b 63 then b - 35
    else if nat_le b 90 then b - 36
    else if b == 95 then 55
    else b - 41

-- the weight of a character with this many after it: 2 for the last, then the next prime numbers
abbrev pub prime_weight : ℕ → ℕ
prime_weight after = slice_index_or
    (2 ∷ 3 ∷ 5 ∷ 7 ∷ 11 ∷ 13 ∷ 17 ∷ 19 ∷ 23 ∷ 29 ∷ 31 ∷ 37 ∷ 41 ∷ 43 ∷ 47 ∷ 53 ∷ 59 ∷ 61 ∷ 67 ∷ 71 ∷ 73 ∷ 79 ∷ 83 ∷ []) after 0

-- the characters, each times its weight
abbrev pub prime_weighted : List ℕ → ℕ
prime_weighted [] = 0
prime_weighted (b ∷ text) = prime_weight (length text) * character_value b + prime_weighted text

-- one of the 32 characters that check others
abbrev pub check_letter : ℕ → ℕ
check_letter value = slice_index_or (codes "23456789ABCDEFGHJKLMNPQRSTUVWXYZ") value 0

-- the two that write the remainder modulo 1021
abbrev pub check_letters : List ℕ → List ℕ
check_letters text = check_letter (prime_weighted text % 1021 / 32) ∷ check_letter (prime_weighted text % 1021 % 32) ∷ []

-- the last two check those before them
abbrev pub ends_in_check_letters : List ℕ → Bool
ends_in_check_letters text = nat_le 2 (length text) && bytes_eq (drop (length text - 2) text) (check_letters (take (length text - 2) text))

-- a number with a digit or a letter written behind it, where A is 10 and Z is 35 (ISO 13616)
abbrev pub written : ℕ → ℕ → ℕ
written number b = if nat_le b 57 then 10 * number + (b - 48) else 100 * number + (b - 55)

-- a number with digits and letters written behind it
abbrev pub account_number : ℕ → List ℕ → ℕ
account_number number [] = number
account_number number (b ∷ text) = account_number (written number b) text

-- a country, two check digits, and an account
abbrev pub begins_as_iban : List ℕ → Bool
begins_as_iban (a ∷ b ∷ c ∷ d ∷ e ∷ text) = is_in_range 65 90 a && (is_in_range 65 90 b && (is_ascii_digit c && is_ascii_digit d))
begins_as_iban _ = false

-- the number of the account, with country and check digits behind it, leaves 1 modulo 97
abbrev pub is_iban : List ℕ → Bool
is_iban text = begins_as_iban text && (account_number (account_number 0 (drop 4 text)) (take 4 text) % 97 == 1)

-- whether the characters that check others are right
abbrev pub is_checked_by : Check → List ℕ → Bool
is_checked_by Unchecked text = true
is_checked_by Digit text = weighted (digits_of text) % 10 == 0
is_checked_by Characters text = ends_in_check_letters text
is_checked_by Iban text = is_iban text
