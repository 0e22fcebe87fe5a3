-- The text of a fault, as it stands in an output line.
use Rattle.std.specs.Prelude.{ℕ, List, Some}
use Rattle.digits_core.specs.Refusals.{refusal_text, refusal_words}
use Rattle.digits_core.specs.declared.refusal.RefusalKind.TheVariants as refusal
use Rattle.digits_core.specs.declared.fault.DigitFault.{DigitFault}
use Rattle.digits_core.specs.declared.fault.DigitFault.TheVariants.{Length, NotDigit, CheckDigit}
use Rattle.digits_core.specs.declared.source.InputFault.{InputFault}
use Rattle.digits_core.specs.declared.source.InputFault.TheVariants.{ReadFault, InputSize, NoMemory}

-- `refused`, its number, its name and, if it has one, its place
abbrev pub digit_fault_text : DigitFault → List ℕ
digit_fault_text Length = refusal_words refusal.Length
digit_fault_text (NotDigit place) = refusal_text refusal.NotDigit (Some place)
digit_fault_text CheckDigit = refusal_words refusal.CheckDigit

-- the same of an input that was not read whole, which has no place
abbrev pub input_fault_text : InputFault → List ℕ
input_fault_text ReadFault = refusal_words refusal.ReadFault
input_fault_text InputSize = refusal_words refusal.InputSize
input_fault_text NoMemory = refusal_words refusal.NoMemory
