-- UPC-E, as scanners send it that do not expand it (GS1 General Specifications, section 5.2.2.4).
use Rattle.std.specs.Prelude.{◌≡◌, ◌==◌, ◌-◌, ℕ, List, [], ◌∷◌, Option, Some, None, Result, Ok, Err, length, slice_index, slice_range, if◌then◌else◌}
use Rattle.digits_core.specs.Digits.{digits_of}
use Rattle.digits_core.specs.Gtins.{first_other}
use Rattle.digits_core.specs.Payloads.{not_digits}
use Rattle.digits_core.specs.Upce.{IsUpceOf}
use Rattle.digits_core.specs.declared.fault.DigitFault.{DigitFault}
use Rattle.digits_core.specs.declared.fault.DigitFault.TheVariants as digits
use Rattle.element_core.specs.Elements.{Entry, gtin_entry}
use Rattle.message_core.specs.declared.fault.MessageFault.{MessageFault}
use Rattle.message_core.specs.declared.fault.MessageFault.TheVariants.{Digits}

-- it is written as the digit 0, six digits and the check digit: why a text is not, if it is not
abbrev pub system_fault : List ℕ → Option DigitFault → Option DigitFault
system_fault text (Some f) = Some f
system_fault text None = if slice_index text 0 == 48 then None else Some digits.Length

abbrev pub upce_fault : List ℕ → Option DigitFault
upce_fault text = if length text == 8 then system_fault text (not_digits (first_other text)) else Some digits.Length

-- the GTIN is what eight such digits stand for
abbrev pub IsUpceDigits : List ℕ → List ℕ → Type 0
IsUpceDigits text gtin = IsUpceOf (digits_of (slice_range text 1 7)) (slice_index text 7 - 48) gtin

-- such digits are refused for this: for the check digit, if they stand for no GTIN
abbrev pub IsUpceFault : List ℕ → DigitFault → Type 0
IsUpceFault text digits.CheckDigit = (upce_fault text ≡ None) × ((gtin : List ℕ) → IsUpceDigits text gtin → ⊥)
IsUpceFault text digits.Length = upce_fault text ≡ Some digits.Length
IsUpceFault text (digits.NotDigit place) = upce_fault text ≡ Some (digits.NotDigit place)

-- what UPC-E digits say: the GTIN that they stand for, or why they are refused
abbrev pub IsUpceSaid : List ℕ → Result (List Entry) MessageFault → Type 0
IsUpceSaid text (Ok list) = (gtin : List ℕ) × (upce_fault text ≡ None) × IsUpceDigits text gtin × (list ≡ gtin_entry gtin ∷ [])
IsUpceSaid text (Err (Digits fault)) = IsUpceFault text fault
IsUpceSaid text (Err fault) = ⊥
