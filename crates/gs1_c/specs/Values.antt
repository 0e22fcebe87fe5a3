-- Answers by the terms that a number says, and their lines.
use Rattle.std.specs.Prelude.{◌==◌, List, None, Option, Some, if◌then◌else◌, ℕ}
use Rattle.digits_core.specs.Refusals.{refusal_words}
use Rattle.digits_core.specs.declared.refusal.RefusalKind.TheVariants as refusal
use Rattle.element_core.specs.Terms.{Terms}
use Rattle.element_core.specs.declared.form.Form.{Form}
use Rattle.element_core.specs.declared.form.Form.TheVariants as form
use Rattle.answer_core.specs.Answers.{TellsNothing}
use Rattle.answer_core.specs.Formats.{format_text}
use Rattle.answer_core.specs.GtinUses.{gtin_use_number}
use Rattle.answer_core.specs.declared.answer.Answer.{Answer}
use Rattle.answer_core.specs.declared.gtin_use.GtinUse.{GtinUse}
use Rattle.gs1_c.specs.Lines.{Under, terms_of}

-- the answer by the terms that a number says; of a number that says none, that the words are none
abbrev pub IsAnsweredBy : ℕ → (Terms → Answer → Type 0) → Answer → Type 0
IsAnsweredBy number Is a = Under (terms_of number) (TellsNothing refusal.Words a) (λ terms. Is terms a)

-- the number of what a GTIN identifies; 0 if there is no GTIN
abbrev pub use_number : Option GtinUse → ℕ
use_number None = 0
use_number (Some kind) = gtin_use_number kind

-- the form of a number: 0, data; 1, as people read it
abbrev pub form_numbered : ℕ → Option Form
form_numbered n = if n == 0 then Some form.Pairs else if n == 1 then Some form.HumanReadable else None

-- the line of an answer in a form; without one, that there is no such kind
abbrev pub line_by : Option Form → Answer → List ℕ
line_by None a = refusal_words refusal.Kind
line_by (Some f) a = format_text f a
