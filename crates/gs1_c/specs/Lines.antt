-- The lines that the calls answer.
use Rattle.std.specs.Prelude.{◌≡◌, ◌-◌, ◌&&◌, Bool, true, false, nat_le, nat_lt, ℕ, List, Option, Some, None, length, if◌then◌else◌}
use Rattle.digits_core.specs.Refusals.{refusal_words}
use Rattle.digits_core.specs.declared.refusal.RefusalKind.TheVariants as refusal
use Rattle.element_core.specs.Lines.{IsElementsLine, elements_text}
use Rattle.element_core.specs.Terms.{Terms}
use Rattle.element_core.specs.declared.form.Form.{Form}
use Rattle.scan_core.specs.Row.{runs_fault}
pub use Rattle.answer_core.specs.Rows.{IsPackedLine, IsWidthsLine, packed_fault}

-- a reference year, 1951 to 2149, and whether every AI is read
abbrev pub year_terms : Bool → ℕ → Option Terms
year_terms every year = if nat_le 1951 year && nat_le year 2149 then Some (record { year = year; every = every }) else None

-- what a number of 16 bits says: its highest bit that every AI is read, and the others the reference year, if they are one
abbrev pub terms_of : ℕ → Option Terms
terms_of number = if nat_lt number 32768 then year_terms false number else year_terms true (number - 32768)

-- what holds by the terms, if there are some
abbrev pub Under : Option Terms → Type 0 → (Terms → Type 0) → Type 0
Under None Refused By = Refused
Under (Some terms) Refused By = By terms

-- the line of a number that says no terms
abbrev pub words_text : List ℕ
words_text = refusal_words refusal.Words

-- this line by the terms that a number says, and else the line of a number that says none
abbrev pub IsLineUnder : ℕ → (Terms → List ℕ → Type 0) → List ℕ → Type 0
IsLineUnder number IsLine line = Under (terms_of number) (line ≡ words_text) (λ terms. IsLine terms line)

-- ---- element strings

-- the line of an element string: a word and its elements in a form, or its first fault
abbrev pub IsTextLine : List ℕ → Form → ℕ → List ℕ → List ℕ → Type 0
IsTextLine word form number text line = IsLineUnder number (λ terms. IsElementsLine word (elements_text form) terms text) line

-- ---- rows

-- the line of widths, the elements in a form
abbrev pub IsRowLine : Form → ℕ → List ℕ → List ℕ → Type 0
IsRowLine form number widths line = IsLineUnder number (λ terms. IsWidthsLine form terms widths (runs_fault widths)) line

-- ---- packed dots

-- the line of packed dots, the elements in a form
abbrev pub IsDotsLine : Form → ℕ → List ℕ → ℕ → List ℕ → Type 0
IsDotsLine form number bits count line = IsLineUnder number (λ terms. IsPackedLine form terms bits count (packed_fault (length bits) count)) line
