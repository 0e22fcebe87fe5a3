-- Answers to elements that are given as pairs.
use Rattle.std.specs.Prelude.{◌≡◌, ℕ, Bool, true, false, List, Option, Some, None}
use Rattle.digits_core.specs.Refusals.{refusal_text}
use Rattle.digits_core.specs.declared.refusal.RefusalKind.{RefusalKind}
use Rattle.digits_core.specs.declared.refusal.RefusalKind.TheVariants as refusal
use Rattle.element_core.specs.Elements.{Entry}
use Rattle.element_core.specs.Faults.{element_fault_text}
use Rattle.element_core.specs.Pairs.{list_fault}
use Rattle.element_core.specs.Terms.{Terms}
use Rattle.element_core.specs.declared.fault.ElementFault.{ElementFault}
use Rattle.message_core.specs.Links.{fits}
use Rattle.answer_core.specs.Answers.{TellsElements, TellsRefusal}
use Rattle.answer_core.specs.Reads.{IsUnnamed}
use Rattle.answer_core.specs.declared.answer.Answer.{Answer}
use Rattle.answer_core.specs.declared.compose.Given.{Given}

abbrev pub entry_given : Given → Entry
entry_given g = record { ai = g.ai.now; value = g.value.now }

-- elements by their fault: its place is the index of the element
abbrev pub TellsGiven : Terms → List Entry → Option ElementFault → Answer → Type 0
TellsGiven terms es None a = TellsElements terms es a
TellsGiven terms es (Some fault) a =
    (kind : RefusalKind) × (place : Option ℕ) × (element_fault_text fault ≡ refusal_text kind place) × TellsRefusal kind place a

-- elements that fit an answer; others are too long
abbrev pub TellsFitting : Terms → List Entry → Bool → Answer → Type 0
TellsFitting terms es false a = TellsRefusal refusal.TooLong None a
TellsFitting terms es true a = TellsGiven terms es (list_fault terms es) a

-- the answer to elements that are given
abbrev pub IsComposedAnswer : Terms → List Entry → Answer → Type 0
IsComposedAnswer terms es a = TellsFitting terms es (fits es) a × IsUnnamed a
