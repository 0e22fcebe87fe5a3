-- Lines by the terms that a number says.
use Rattle.std.proofs.Common.{◌≡◌, ℕ, List, Result, Ok, Err, IfErr, IfOk, Option, None, Some, subst, sym}
use Rattle.std.specs.Prelude.{OnOk}
use Rattle.digits_core.specs.declared.refusal.RefusalKind.TheVariants as refusal
use Rattle.element_core.specs.Terms.{Terms}
use Rattle.element_core.specs.declared.form.Form.{Form}
use Rattle.answer_core.specs.Answers.{TellsNothing}
use Rattle.answer_core.specs.Formats.{worded_text}
use Rattle.answer_core.specs.declared.answer.Answer.{Answer}
use Rattle.answer_core.proofs.Formats.{refused_words}
use Rattle.gs1_c.specs.Lines.{IsLineUnder, Under, terms_of, words_text}
use Rattle.gs1_c.specs.Values.{IsAnsweredBy}
use Rattle.gs1_c.specs.inner.Lines.{IsFoundLine}
use Rattle.answer_core.specs.Rows.{IsWidthsLine}
use Rattle.scan_core.specs.Reading.{IsFound}
use Rattle.scan_core.specs.Row.{runs_fault}
use Rattle.scan_core.specs.declared.fault.RunFault.{RunFault}
use Rattle.scan_core.specs.declared.found.Found.{Found}

-- what holds by terms holds under them
pub under : (Refused : Type 0) (terms : Terms) (said : Option Terms) (By : Terms → Type 0) → Some terms ≡ said → By terms → Under said Refused By
under Refused terms said By is holds = subst (λ (o : Option Terms). Under o Refused By) is holds

line_by_terms : (o : Option Terms) (Is : Terms → Answer → Type 0) (IsLine : Terms → List ℕ → Type 0) (word : List ℕ) (form : Form) (a : Answer)
    → ((terms : Terms) → Is terms a → IsLine terms (worded_text word form a)) → Under o (TellsNothing refusal.Words a) (λ terms. Is terms a)
    → Under o (worded_text word form a ≡ words_text) (λ terms. IsLine terms (worded_text word form a))
line_by_terms None Is IsLine word form a line told = refused_words word form refusal.Words a told.0
line_by_terms (Some terms) Is IsLine word form a line told = line terms told

-- the line of an answer
pub answered_line : (number : ℕ) (Is : Terms → Answer → Type 0) (IsLine : Terms → List ℕ → Type 0) (word : List ℕ) (form : Form) (a : Answer)
    → ((terms : Terms) → Is terms a → IsLine terms (worded_text word form a)) → IsAnsweredBy number Is a → IsLineUnder number IsLine (worded_text word form a)
answered_line number Is IsLine word form a line told = line_by_terms (terms_of number) Is IsLine word form a line told

-- the line of widths, by what is found in them
pub widths_line : (form : Form) (terms : Terms) (widths : List ℕ) (r : Result Found RunFault) (line : List ℕ) → IfOk r (IsFound widths)
    → OnOk r (runs_fault widths ≡ None) → IfErr r (λ fault. runs_fault widths ≡ Some fault) → IsFoundLine form terms r line
    → IsWidthsLine form terms widths (runs_fault widths) line
widths_line form terms widths (Ok found) line ok taken refused said =
    subst (λ o. IsWidthsLine form terms widths o line) (sym taken) (said.0, said.1 widths ok, said.2)
widths_line form terms widths (Err fault) line ok taken refused said =
    subst (λ o. IsWidthsLine form terms widths o line) (sym refused) said
