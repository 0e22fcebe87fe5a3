-- Texts of digits that have no check digit yet (GS1 General Specifications, section 7.9).
use Rattle.std.specs.Prelude.{ℕ, ◌&&◌, nat_le, List, Option, Some, None, length, if◌then◌else◌}
use Rattle.digits_core.specs.Gtins.{first_other}
use Rattle.digits_core.specs.declared.fault.DigitFault.{DigitFault}
use Rattle.digits_core.specs.declared.fault.DigitFault.TheVariants.{Length, NotDigit}

-- the fault of a text whose first byte that is no digit stands here
abbrev pub not_digits : Option ℕ → Option DigitFault
not_digits (Some place) = Some (NotDigit place)
not_digits None = None

-- 1 to 17 digits have a check digit: why a text has none, if it has none, its length first
abbrev pub payload_fault : List ℕ → Option DigitFault
payload_fault text = if nat_le 1 (length text) && nat_le (length text) 17 then not_digits (first_other text) else Some Length
