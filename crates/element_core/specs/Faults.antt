-- The text of a fault, as it stands in an output line.
use Rattle.std.specs.Prelude.{ℕ, List, Some}
use Rattle.digits_core.specs.Refusals.{refusal_text, refusal_words}
use Rattle.digits_core.specs.declared.refusal.RefusalKind.TheVariants as refusal
use Rattle.element_core.specs.declared.fault.ElementFault.{ElementFault}
use Rattle.element_core.specs.declared.fault.ElementFault.TheVariants.{Empty, UnknownAi, ValueLength, ValueCharacter, ValueCheckDigit, ValueDate, MissingSeparator, TooLong}

-- `refused`, its number, its name and, if it has one, its place
abbrev pub element_fault_text : ElementFault → List ℕ
element_fault_text Empty = refusal_words refusal.Empty
element_fault_text (UnknownAi place) = refusal_text refusal.UnknownAi (Some place)
element_fault_text (ValueLength place) = refusal_text refusal.ValueLength (Some place)
element_fault_text (ValueCharacter place) = refusal_text refusal.ValueCharacter (Some place)
element_fault_text (ValueCheckDigit place) = refusal_text refusal.ValueCheckDigit (Some place)
element_fault_text (ValueDate place) = refusal_text refusal.ValueDate (Some place)
element_fault_text (MissingSeparator place) = refusal_text refusal.MissingSeparator (Some place)
element_fault_text TooLong = refusal_words refusal.TooLong
