-- Answers to texts as people type, print and paste them.
use Rattle.std.specs.Prelude.{◌≡◌, ◌==◌, ◌&&◌, ◌||◌, not, nat_le, ℕ, Bool, true, false, List, Option, Some, None, is_some, length, option_map, slice_index_or, if◌then◌else◌}
use Rattle.std.specs.Char.{is_ascii_digit}
use Rattle.std.specs.List.{AllByRecursion, list_all, list_any}
use Rattle.digits_core.specs.Refusals.{refusal_text}
use Rattle.digits_core.specs.declared.refusal.RefusalKind.{RefusalKind}
use Rattle.digits_core.specs.declared.refusal.RefusalKind.TheVariants as refusal
use Rattle.element_core.specs.Elements.{Entry, IsElements, canonical, hri}
use Rattle.element_core.specs.Faults.{element_fault_text}
use Rattle.element_core.specs.Pairs.{list_fault}
use Rattle.element_core.specs.Terms.{Terms}
use Rattle.element_core.specs.declared.fault.ElementFault.{ElementFault}
use Rattle.message_core.specs.Heads.{is_message}
use Rattle.message_core.specs.Links.{fits}
use Rattle.message_core.specs.Spellings.{spelled}
use Rattle.answer_core.specs.Answers.{TellsElements, TellsNothing, TellsRefusal}
use Rattle.answer_core.specs.Gaps.{without_gaps, trimmed}
use Rattle.answer_core.specs.Printed.{begins_marked, has_mark, has_plain_value, printed, start_of}
use Rattle.answer_core.specs.Reads.{IsGtinAnswer, IsMessageAnswer, IsStringAnswer, IsUnnamed}
use Rattle.answer_core.specs.declared.answer.Answer.{Answer}
use Rattle.answer_core.specs.declared.gap.GapPlace.TheVariants as gap
use Rattle.answer_core.specs.declared.printed.Marks.{Marks}
use Rattle.answer_core.specs.declared.text.TextKind.{TextKind}
use Rattle.answer_core.specs.declared.text.TextKind.TheVariants.{Parentheses, Brackets, Sent, Separated, Number}

-- ---- printed element strings

-- whether the elements of a text fit an answer and have no fault, the first of them at its front
abbrev pub is_read : Terms → Marks → List ℕ → Bool
is_read terms marks text = begins_marked marks text && (fits (printed marks text) && not (is_some (list_fault terms (printed marks text))))

-- elements by their fault: its place is that of the element
abbrev pub TellsPlaced : Terms → List Entry → Option ElementFault → Answer → Type 0
TellsPlaced terms es None a = TellsElements terms es a
TellsPlaced terms es (Some fault) a =
    (kind : RefusalKind) × (place : Option ℕ) × (element_fault_text fault ≡ refusal_text kind place) × TellsRefusal kind (option_map (start_of es) place) a

-- why elements are not read, if they fit, and the text begins with the first and has signs around AIs alone
abbrev pub TellsUnread : Terms → List Entry → Bool → Bool → Answer → Type 0
TellsUnread terms es false is_printed a = TellsRefusal refusal.TooLong None a
TellsUnread terms es true false a = TellsRefusal refusal.UnknownAi None a
TellsUnread terms es true true a = TellsPlaced terms es (list_fault terms es) a

-- what any two to four digits between signs say, in the place of AIs
abbrev pub TellsPrintedFault : Terms → Marks → List ℕ → Answer → Type 0
TellsPrintedFault terms marks text a =
    TellsUnread terms (printed marks text) (fits (printed marks text)) (begins_marked marks text && list_all (has_plain_value marks) (printed marks text)) a

-- the AIs of the table between signs with their values; or the fault
abbrev pub TellsPrinted : Terms → Marks → Marks → List ℕ → Bool → Answer → Type 0
TellsPrinted terms known any text true a = TellsElements terms (printed known text) a
TellsPrinted terms known any text false a = TellsPrintedFault terms any text a

abbrev pub marks_of : ℕ → ℕ → Bool → Marks
marks_of opening closing known = record { opening = opening; closing = closing; known = known }

abbrev pub IsPrintedAnswer : ℕ → ℕ → Terms → List ℕ → Answer → Type 0
IsPrintedAnswer opening closing terms text a =
    TellsPrinted terms (marks_of opening closing true) (marks_of opening closing false) text (is_read terms (marks_of opening closing true) text) a × IsUnnamed a

-- ---- numbers

-- only zeros are no number of an article; and eight digits that begin with 0 may be an EAN-8 or a UPC-E
abbrev pub is_no_gtin : List ℕ → Bool
is_no_gtin digits =
    nat_le 1 (length digits) && nat_le (length digits) 192
    && (list_all (λ b. b == 48) digits || (list_all is_ascii_digit digits && ((length digits == 8) && (slice_index_or digits 0 0 == 48))))

abbrev pub IsNumberBy : Bool → Terms → List ℕ → Answer → Type 0
IsNumberBy true terms digits a = TellsNothing refusal.Kind a
IsNumberBy false terms digits a = IsGtinAnswer terms digits a

abbrev pub IsNumberAnswer : Terms → List ℕ → Answer → Type 0
IsNumberAnswer terms digits a = IsNumberBy (is_no_gtin digits) terms digits a

-- ---- texts

abbrev pub has_separator : List ℕ → Bool
has_separator text = list_any (λ b. (b == 29) || (b == 94)) text

-- what a text without gaps at its ends is: printed, or what a scanner sends, which begins as a message does and not with a digit;
-- or an element string, if it has a separator; or else a number
abbrev pub text_kind : List ℕ → TextKind
text_kind text =
    if slice_index_or text 0 0 == 40 then Parentheses
    else if slice_index_or text 0 0 == 91 then Brackets
    else if is_message text && not (is_ascii_digit (slice_index_or text 0 0)) then Sent
    else if has_separator text then Separated
    else Number

abbrev pub IsKindAnswer : TextKind → Terms → List ℕ → Answer → Type 0
IsKindAnswer Parentheses terms text a = IsPrintedAnswer 40 41 terms text a
IsKindAnswer Brackets terms text a = IsPrintedAnswer 91 93 terms text a
IsKindAnswer Sent terms text a = IsMessageAnswer terms text a
IsKindAnswer Separated terms text a = IsStringAnswer terms (spelled text) a
IsKindAnswer Number terms text a = IsNumberAnswer terms (without_gaps gap.Number text) a

-- the answer to a text
abbrev pub IsTextAnswer : Terms → List ℕ → Answer → Type 0
IsTextAnswer terms text a = IsKindAnswer (text_kind (trimmed gap.Ends text)) terms (trimmed gap.Ends text) a

-- ---- laws

-- no value has an AI of the table in parentheses
abbrev pub ArePlain : List Entry → Type 0
ArePlain es = AllByRecursion (λ e. has_mark (marks_of 40 41 true) e.value ≡ false) es

-- the line that is printed of such elements is read as these elements
abbrev pub PrintedRead : Type 0
PrintedRead = (terms : Terms) (es : List Entry) (a : Answer) → IsElements terms (canonical es) es → ArePlain es
    → IsTextAnswer terms (hri es) a → TellsElements terms es a × IsUnnamed a

-- and it is the line of no others
abbrev pub OnePrintedLine : Type 0
OnePrintedLine = (terms other : Terms) (es fs : List Entry) → IsElements terms (canonical es) es → ArePlain es → IsElements other (canonical fs) fs → ArePlain fs
    → hri es ≡ hri fs → es ≡ fs
