-- The lines of texts as scanners send them.
use Rattle.std.specs.Prelude.{ℕ, List}
use Rattle.element_core.specs.declared.form.Form.TheVariants as form
use Rattle.gs1_c.specs.Lines.{IsLineUnder}
use Rattle.message_core.specs.Messages.{IsMessageLine}

-- the line of a text as a scanner sends it, by the terms that a number says
abbrev pub IsScanLine : ℕ → List ℕ → List ℕ → Type 0
IsScanLine number text line = IsLineUnder number (λ terms. IsMessageLine form.Pairs terms text) line
