-- Answers to the lines of a text.
use Rattle.std.specs.Prelude.{◌≡◌, ◌≤◌, ℕ, List, Option, Some, None, drop, length, min, take}
use Rattle.std.specs.List.{AllZip}
use Rattle.std.specs.Str.Lines.{lines}
use Rattle.digits_core.specs.declared.refusal.RefusalKind.TheVariants as refusal
use Rattle.element_core.specs.Terms.{Terms}
use Rattle.answer_core.specs.Answers.{TellsNothing}
use Rattle.answer_core.specs.Reads.{IsGtinAnswer, IsMessageAnswer}
use Rattle.answer_core.specs.declared.answer.Answer.{Answer}
use Rattle.answer_core.specs.declared.lines.LineKind.{LineKind}
use Rattle.answer_core.specs.declared.lines.LineKind.TheVariants as kind

-- the answer to a line; without terms, that there are none
abbrev pub IsLineAnswer : LineKind → Option Terms → List ℕ → Answer → Type 0
IsLineAnswer k None line a = TellsNothing refusal.Words a
IsLineAnswer kind.Message (Some terms) line a = IsMessageAnswer terms line a
IsLineAnswer kind.Gtin (Some terms) line a = IsGtinAnswer terms line a

-- the lines of a text are answered in order, as many as there is room for; behind the bytes that were used stand the others
pub record AreLinesAnswered (k : LineKind) (terms : Option Terms) (text : List ℕ) (old new : List Answer) (count used : ℕ) : Type 0 where
  pub count_is : count ≡ min (length (lines text)) (length old)
  pub answered : AllZip (IsLineAnswer k terms) (take count (lines text)) (take count new)
  pub kept : drop count new ≡ drop count old
  pub within : used ≤ length text
  pub left : lines (drop used text) ≡ drop count (lines text)
