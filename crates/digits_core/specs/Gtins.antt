-- Texts of digits that are GTINs (GS1 General Specifications, sections 3.3 and 7.9).
use Rattle.std.specs.Prelude.{ℕ, ◌==◌, ◌%◌, ◌||◌, not, Bool, List, Option, Some, None, length, position, if◌then◌else◌}
use Rattle.std.specs.Char.{is_ascii_digit}
use Rattle.digits_core.specs.Digits.{digits_of, weighted}
use Rattle.digits_core.specs.declared.fault.DigitFault.{DigitFault}
use Rattle.digits_core.specs.declared.fault.DigitFault.TheVariants.{Length, NotDigit, CheckDigit}

-- GTIN-8, GTIN-12, GTIN-13 and GTIN-14
abbrev pub is_gtin_length : ℕ → Bool
is_gtin_length n = (n == 8) || ((n == 12) || ((n == 13) || (n == 14)))

-- the place of the first byte that is no digit
abbrev pub first_other : List ℕ → Option ℕ
first_other text = position (λ b. not (is_ascii_digit b)) text

-- the fault of a text of right length, by the place of its first byte that is no digit
abbrev pub digits_fault : List ℕ → Option ℕ → Option DigitFault
digits_fault text (Some place) = Some (NotDigit place)
digits_fault text None = if weighted (digits_of text) % 10 == 0 then None else Some CheckDigit

-- why a text is no GTIN, if it is none: its length, then its first byte that is no digit, then its check digit
abbrev pub gtin_fault : List ℕ → Option DigitFault
gtin_fault text = if is_gtin_length (length text) then digits_fault text (first_other text) else Some Length
