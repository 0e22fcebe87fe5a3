-- Answers to texts and to rows.
use Rattle.std.specs.Prelude.{◌≡◌, ◌<◌, ◌⊎◌, IfSome, ℕ, List, [], ◌∷◌, Option, Some, None, Ok, Err, take}
use Rattle.std.specs.Str.{IsTrimAsciiEnd}
use Rattle.digits_core.specs.Digits.{digits_of, padded}
use Rattle.digits_core.specs.Faults.{digit_fault_text}
use Rattle.digits_core.specs.Gtins.{gtin_fault}
use Rattle.digits_core.specs.Refusals.{refusal_text}
use Rattle.digits_core.specs.declared.fault.DigitFault.{DigitFault}
use Rattle.digits_core.specs.declared.refusal.RefusalKind.{RefusalKind}
use Rattle.element_core.specs.Elements.{Entry, FirstFault, IsElements, gtin_entry}
use Rattle.element_core.specs.Faults.{element_fault_text}
use Rattle.element_core.specs.Terms.{Terms}
use Rattle.element_core.specs.declared.fault.ElementFault.{ElementFault}
use Rattle.message_core.specs.Faults.{message_fault_text}
use Rattle.message_core.specs.Messages.{IsMessage, Outcome}
use Rattle.message_core.specs.declared.head.Head.{Head}
use Rattle.digits_core.specs.declared.refusal.RefusalKind.TheVariants as refusal
use Rattle.element_core.specs.declared.form.Form.TheVariants as form
use Rattle.answer_core.specs.Answers.{IsError, IsNamed, TellsElements, TellsNothing, TellsRefusal}
use Rattle.answer_core.specs.Formats.{format_text}
use Rattle.answer_core.specs.Symbols.{identified_symbol, sent_identifier, sent_symbol, symbol_number}
use Rattle.answer_core.specs.declared.answer.Answer.{Answer}
use Rattle.answer_core.specs.declared.symbol.SymbolKind.TheVariants.{Unknown}

-- the refusal that is written as this line, whose place is below 65535
abbrev pub TellsLine : List ℕ → Answer → Type 0
TellsLine line a =
    (kind : RefusalKind) × (place : Option ℕ) × (line ≡ refusal_text kind place) × TellsRefusal kind place a × IfSome place (λ p. p < 65535)

-- no symbol is known
abbrev pub IsUnnamed : Answer → Type 0
IsUnnamed a = IsNamed Unknown (0 ∷ 0 ∷ 0 ∷ 0 ∷ []) a

-- ---- messages

-- what a message says: its elements, or its fault
abbrev pub TellsOutcome : Terms → Outcome → Answer → Type 0
TellsOutcome terms (Ok es) a = TellsElements terms es a
TellsOutcome terms (Err fault) a = TellsLine (message_fault_text fault) a

-- the answer to a text of a scanner: what it says, and which symbol the scanner read
abbrev pub IsMessageAnswer : Terms → List ℕ → Answer → Type 0
IsMessageAnswer terms text a =
    (head : Option Head) × (told : Outcome) × (said : List ℕ) × IsMessage terms text head told × IsTrimAsciiEnd text said
    × TellsOutcome terms told a × IsNamed (sent_symbol head said) (sent_identifier head) a

-- ---- element strings and numbers

-- the answer to an element string: its elements, or its first fault
abbrev pub IsStringAnswer : Terms → List ℕ → Answer → Type 0
IsStringAnswer terms text a =
    (((es : List Entry) × IsElements terms text es × TellsElements terms es a)
    ⊎ ((fault : ElementFault) × FirstFault terms text fault × TellsLine (element_fault_text fault) a))
    × IsUnnamed a

-- the answer to the digits of a GTIN, by their fault: the element of AI 01, or why they are none
abbrev pub IsGtinBy : Terms → List ℕ → Option DigitFault → Answer → Type 0
IsGtinBy terms digits None a = TellsElements terms (gtin_entry (padded (digits_of digits)) ∷ []) a
IsGtinBy terms digits (Some fault) a = TellsLine (digit_fault_text fault) a

abbrev pub IsGtinAnswer : Terms → List ℕ → Answer → Type 0
IsGtinAnswer terms digits a = IsGtinBy terms digits (gtin_fault digits) a × IsUnnamed a

-- ---- lines of answers

-- an answer by these terms: it has elements, or an error
abbrev pub IsAnswerBy : Terms → Answer → Type 0
IsAnswerBy terms a = ((es : List Entry) × TellsElements terms es a) ⊎ IsError a

-- the symbol is that of the identifier and the elements
abbrev pub NamesItself : Answer → Type 0
NamesItself a = a.symbol ≡ symbol_number (identified_symbol a.identifier (take a.length a.text))

-- the answer whose line this is, with the elements as data; or that the text is no such line
abbrev pub IsDataAnswer : Terms → List ℕ → Answer → Type 0
IsDataAnswer terms line a = (IsAnswerBy terms a × NamesItself a × (format_text form.Pairs a ≡ line)) ⊎ TellsNothing refusal.Kind a
