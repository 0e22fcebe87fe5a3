-- Percent codes (RFC 3986, section 2.1).
use Rattle.std.specs.Prelude.{◌==◌, ◌&&◌, ◌||◌, ◌+◌, ◌-◌, ◌*◌, ◌/◌, ◌%◌, not, nat_le, ℕ, Bool, false, true, List, [], ◌∷◌, if◌then◌else◌}
use Rattle.std.specs.Char.{is_ascii_hexdigit}
use Rattle.std.specs.Int.{is_in_range}

-- two hexadecimal digits
abbrev pub begins_code : List ℕ → Bool
begins_code (high ∷ low ∷ text) = is_ascii_hexdigit high && is_ascii_hexdigit low
begins_code text = false

-- they stand behind each `%`
abbrev pub is_coded : List ℕ → Bool
is_coded [] = true
is_coded (b ∷ text) = (not (b == 37) || begins_code text) && is_coded text

-- the number of a hexadecimal digit
abbrev pub hex_value : ℕ → ℕ
hex_value b =
    if is_in_range 48 57 b then b - 48
    else if is_in_range 65 70 b then b - 65 + 10
    else if is_in_range 97 102 b then b - 97 + 10
    else 0

-- the byte that two of them stand for
abbrev pub coded_byte : ℕ → ℕ → ℕ
coded_byte high low = hex_value high * 16 + hex_value low

-- the byte that a byte outside a code stands for: `plus` if it is a `+`, else itself
abbrev pub plain_byte : ℕ → ℕ → ℕ
plain_byte plus b = if b == 43 then plus else b

-- the bytes that a text stands for: `%` and two digits behind it for one, each other byte for one
unfoldable pub decoded : ℕ → List ℕ → List ℕ
decoded plus [] = []
decoded plus (b ∷ []) = plain_byte plus b ∷ []
decoded plus (b ∷ c ∷ []) = plain_byte plus b ∷ plain_byte plus c ∷ []
decoded plus (b ∷ high ∷ low ∷ text) =
    if b == 37 then coded_byte high low ∷ decoded plus text else plain_byte plus b ∷ decoded plus (high ∷ low ∷ text)

-- a hexadecimal digit, and a text with codes for those of its bytes that are not kept as they are
abbrev pub hex_digit : ℕ → ℕ
hex_digit n = if nat_le n 9 then 48 + n else 55 + n

unfoldable pub encoded : (ℕ → Bool) → List ℕ → List ℕ
encoded is_kept [] = []
encoded is_kept (b ∷ bytes) =
    if is_kept b then b ∷ encoded is_kept bytes else 37 ∷ hex_digit (b / 16) ∷ hex_digit (b % 16) ∷ encoded is_kept bytes
