-- Laws of answers.
use Rattle.std.specs.Prelude.{◌≡◌, ◌++◌, ◌∷◌, ◌<◌, Bool, IfSome, List, Ok, Option, Some, length, ℕ}
use Rattle.std.specs.List.{filter}
use Rattle.digits_core.specs.Refusals.{refusal_text}
use Rattle.digits_core.specs.declared.refusal.RefusalKind.{RefusalKind}
use Rattle.element_core.specs.Elements.{Entry}
use Rattle.element_core.specs.Lines.{IsElementsLine, elements_text}
use Rattle.element_core.specs.Terms.{Terms}
use Rattle.element_core.specs.declared.form.Form.{Form}
use Rattle.message_core.specs.Messages.{IsMessage, IsMessageLine}
use Rattle.message_core.specs.declared.head.Head.TheVariants as head
use Rattle.message_core.specs.declared.symbology.Symbology.{Symbology}
use Rattle.scan_core.specs.Row.{runs_fault}
use Rattle.answer_core.specs.Answers.{TellsElements, TellsRefusal}
use Rattle.answer_core.specs.Formats.{format_text, word_of, worded_text}
use Rattle.answer_core.specs.Reads.{IsMessageAnswer, IsStringAnswer}
use Rattle.answer_core.specs.Rows.{IsDotsAnswer, IsPackedLine, IsWidthsAnswer, IsWidthsLine, packed_fault}
use Rattle.answer_core.specs.Written.{Parted, link_text, parted, scan_text}
use Rattle.answer_core.specs.declared.answer.Answer.{Answer}

-- an answer stands for one list of elements
abbrev pub AnswersTellOne : Type 0
AnswersTellOne = (terms : Terms) (a : Answer) (es fs : List Entry) → TellsElements terms es a → TellsElements terms fs a → es ≡ fs

-- the line of an answer has the elements of the answer
abbrev pub LinesTell : Type 0
LinesTell = (form : Form) (terms : Terms) (a : Answer) (es : List Entry) → TellsElements terms es a
    → format_text form a ≡ word_of a ++ (32 ∷ elements_text form es)

-- the line of an answer with an error is that of the error; it omits a place from 65535 on
abbrev pub RefusedLines : Type 0
RefusedLines = (form : Form) (kind : RefusalKind) (place : Option ℕ) (a : Answer) → TellsRefusal kind place a → IfSome place (λ p. p < 65535)
    → format_text form a ≡ refusal_text kind place

-- the line of the answer to a text of a scanner is the line of its message
abbrev pub MessageLines : Type 0
MessageLines = (form : Form) (terms : Terms) (text : List ℕ) (a : Answer) → IsMessageAnswer terms text a
    → IsMessageLine form terms text (format_text form a)

-- the line of the answer to an element string by a word is the line of the string
abbrev pub StringLines : Type 0
StringLines = (word : List ℕ) (form : Form) (terms : Terms) (text : List ℕ) (a : Answer) → IsStringAnswer terms text a
    → IsElementsLine word (elements_text form) terms text (worded_text word form a)

-- the line of the answer to a row is the line of the row, of widths or of packed dots
abbrev pub RowLines : Type 0
RowLines =
    ((form : Form) (terms : Terms) (widths : List ℕ) (a : Answer) → IsWidthsAnswer terms widths a
    → IsWidthsLine form terms widths (runs_fault widths) (format_text form a))
    × ((form : Form) (terms : Terms) (bits : List ℕ) (count : ℕ) (a : Answer) → IsDotsAnswer terms bits count a
    → IsPackedLine form terms bits count (packed_fault (length bits) count) (format_text form a))

-- ---- what is written is read again

-- the text that a scanner sends of elements is read as these elements behind its identifier
abbrev pub ScanReads : Type 0
ScanReads = (terms : Terms) (s : Symbology) (es : List Entry) (text : List ℕ) → scan_text terms (Some s) es ≡ Ok text
    → IsMessage terms text (Some (head.Symbology s)) (Ok es)

-- the link of elements is read as the same elements, each as often, those of its path before those of its query
abbrev pub LinkReads : Type 0
LinkReads = (terms : Terms) (stem : List ℕ) (es : List Entry) (link : List ℕ) → link_text terms stem es ≡ Ok link
    → (p : Parted) × (parted es ≡ Some p) × ((is : Entry → Bool) → length (filter is (p.path ++ p.query)) ≡ length (filter is es))
    × IsMessage terms link (Some head.Link) (Ok (p.path ++ p.query))
