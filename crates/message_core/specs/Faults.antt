-- Why messages say nothing.
use Rattle.std.specs.Prelude.{ℕ, List, Result, Ok, Err}
use Rattle.digits_core.specs.Faults.{digit_fault_text}
use Rattle.digits_core.specs.Refusals.{refusal_words}
use Rattle.digits_core.specs.declared.refusal.RefusalKind.TheVariants as refusal
use Rattle.element_core.specs.Elements.{Entry, Listing}
use Rattle.element_core.specs.Faults.{element_fault_text}
use Rattle.message_core.specs.declared.fault.MessageFault.{MessageFault}
use Rattle.message_core.specs.declared.fault.MessageFault.TheVariants as message

-- what a fault is written as
abbrev pub message_fault_text : MessageFault → List ℕ
message_fault_text (message.Digits fault) = digit_fault_text fault
message_fault_text (message.Elements fault) = element_fault_text fault
message_fault_text message.Kind = refusal_words refusal.Kind

-- what is said, whatever the year: a list of elements or a fault
abbrev pub heard : Result Listing MessageFault → Result (List Entry) MessageFault
heard (Ok elements) = Ok elements.list
heard (Err fault) = Err fault
