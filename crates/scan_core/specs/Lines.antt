-- What a row says, as it stands in an output line.
use Rattle.std.specs.Prelude.{ℕ, List, ◌∷◌, ◌++◌, Option, Some, None, codes}
use Rattle.ean_code.specs.declared.kind.Kind.{Kind}
use Rattle.ean_code.specs.Symbols.{kind_identifier}
use Rattle.element_core.specs.Lines.{elements_text}
use Rattle.element_core.specs.declared.form.Form.{Form}
use Rattle.element_core.specs.declared.form.Form.TheVariants as form
use Rattle.scan_core.specs.Faults.{row_fault_text}
use Rattle.scan_core.specs.declared.answer.Answer.{Answer}
use Rattle.scan_core.specs.declared.answer.Answer.TheVariants as answer
use Rattle.scan_core.specs.declared.carrier.Carrier.{Carrier}
use Rattle.scan_core.specs.Showing.{kind_of}

-- the symbology identifier of a kind, or else of GS1-128
abbrev pub identifier_by : Option Kind → List ℕ
identifier_by (Some kind) = kind_identifier kind
identifier_by None = codes "]C1"

-- the symbology identifier of a carrier (GS1 General Specifications, section 5.1.3)
abbrev pub identifier : Carrier → List ℕ
identifier carrier = identifier_by (kind_of carrier)

-- an answer, its elements in a form: the identifier and the elements, or why the row is refused
abbrev pub said : Form → Answer → List ℕ
said f (answer.Read c elements) = identifier c ++ (32 ∷ elements_text f elements.list)
said f (answer.Refused fault) = row_fault_text fault

-- the same, with the elements in the human-readable form
abbrev pub answer_text : Answer → List ℕ
answer_text a = said form.HumanReadable a
