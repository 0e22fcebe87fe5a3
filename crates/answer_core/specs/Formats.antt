-- The lines of answers.
use Rattle.std.specs.Prelude.{ℕ, ◌==◌, List, [], ◌∷◌, ◌++◌, Option, Some, None, codes, map, take, if◌then◌else◌}
use Rattle.std.specs.Fmt.{decimal}
use Rattle.digits_core.specs.Refusals.{refusal_words}
use Rattle.digits_core.specs.declared.refusal.RefusalKind.{RefusalKind}
use Rattle.element_core.specs.Elements.{Entry}
use Rattle.element_core.specs.Lines.{elements_text}
use Rattle.element_core.specs.declared.form.Form.{Form}
use Rattle.answer_core.specs.Places.{entry_at}
use Rattle.answer_core.specs.Refusals.{refusal_numbered}
use Rattle.answer_core.specs.declared.answer.Answer.{Answer}

-- the elements that stand at the places of an answer; a place that is no span of the text is of an empty AI or value
abbrev pub entries_in : Answer → List Entry
entries_in a = map (entry_at (take a.length a.text)) (take a.count a.elements)

-- the bytes before the first 0
abbrev pub before_zero : List ℕ → List ℕ
before_zero [] = []
before_zero (b ∷ bytes) = if b == 0 then [] else b ∷ before_zero bytes

-- the identifier; `-` stands for none
abbrev pub word_or_dash : List ℕ → List ℕ
word_or_dash [] = 45 ∷ []
word_or_dash (b ∷ word) = b ∷ word

abbrev pub word_of : Answer → List ℕ
word_of a = word_or_dash (before_zero a.identifier)

-- the words of an error; `refused` alone of a number that no error has
abbrev pub fault_words : Option RefusalKind → List ℕ
fault_words (Some kind) = refusal_words kind
fault_words None = codes "refused"

-- words, and behind a space the place, if there is one
abbrev pub placed_words : List ℕ → ℕ → List ℕ
placed_words words place = if place == 65535 then words else words ++ (32 ∷ decimal place)

-- the line of an answer by a word: the word and the elements in a form, or the error and where it is
abbrev pub worded_text : List ℕ → Form → Answer → List ℕ
worded_text word form a =
    if a.fault == 0 then word ++ (32 ∷ elements_text form (entries_in a)) else placed_words (fault_words (refusal_numbered a.fault)) a.place

-- the line of an answer, by its identifier
abbrev pub format_text : Form → Answer → List ℕ
format_text form a = worded_text (word_of a) form a
