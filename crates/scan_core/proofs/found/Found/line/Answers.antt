use Rattle.std.proofs.Common.{◌∙◌, List, ℕ, [], ◌∷◌, ◌++◌, Ok, Err, ap, refl, subst, inl, inr}
use Rattle.element_core.specs.Elements.{FirstFault, IsElements, gtin_entry}
use Rattle.element_core.specs.Lines.{elements_text}
use Rattle.scan_core.specs.inner.Reading.{number_text}
use Rattle.scan_core.specs.Answers.{row_text}
use Rattle.scan_core.specs.declared.answer.Answer.TheVariants.{Read, Refused}
use Rattle.scan_core.specs.declared.fault.RowFault.TheVariants.{Code128, Elements}
use Rattle.scan_core.specs.Reading.ReadSymbol.{Characters, Number}
use Rattle.scan_core.proofs.AnswerFacts.{answer_from}
use Rattle.scan_core.proofs.CandidateShows.{symbol_tells}
use Rattle.scan_core.proofs.found.Found.line.Goals as goal

pub returns-in-Number : goal.returns-in-Number
returns-in-Number c =
    let of = c.in-Number in
    let year = c.args.year in
    let list = gtin_entry of.gtin ∷ [] in (
      Read of.carrier (record { year = year; list = list }),
      λ runs found. answer_from runs year of.carrier (number_text of.gtin) (Ok (record { year = year; list = list }))
          (symbol_tells runs of.carrier (Number of.gtin) (rw of.is at found)) (refl, c.of_gtin_element.ensures.reads year),
      c.of_gtin_element.ensures.text ∙ ap (λ (w : List ℕ). w ++ (32 ∷ elements_text c.args.form list)) c.identifier.ensures,
    )

pub returns-in-Ok : goal.returns-in-Ok
returns-in-Ok c =
    let of = c.in-Characters in
    let year = c.args.year in
    let text : List ℕ = c.in-Ok.text.items in
    let said = ap row_text (rw c.in-Ok.is at c.text_of.ensures.text) in
    let whole = c.as_slice.ensures.value in
    elim c.elements_line.ensures [
      | inl read ↦ (
        Read of.carrier (record { year = year; list = read.0 }),
        λ runs found. answer_from runs year of.carrier (Ok text) (Ok (record { year = year; list = read.0 }))
            (rw said at (symbol_tells runs of.carrier (Characters of.values) (rw of.is at found)))
            (refl, subst (λ (t : List ℕ). IsElements year t read.0) whole read.1),
        read.2 ∙ ap (λ (w : List ℕ). w ++ (32 ∷ elements_text c.args.form read.0)) c.identifier-in-Ok.ensures,
      )
      | inr fault ↦ (
        Refused (Elements fault.0),
        λ runs found. answer_from runs year of.carrier (Ok text) (Err (Elements fault.0))
            (rw said at (symbol_tells runs of.carrier (Characters of.values) (rw of.is at found)))
            (fault.0, subst (λ (t : List ℕ). FirstFault year t fault.0) whole fault.1, refl),
        fault.2,
      )
    ]

pub returns-in-Err : goal.returns-in-Err
returns-in-Err c =
    let of = c.in-Characters in
    let fault = Code128 c.in-Err.fault in
    let said = ap row_text (rw c.in-Err.is at c.text_of.ensures.fault) in (
      Refused fault,
      λ runs found. answer_from runs c.args.year of.carrier (Err fault) (Err fault)
          (rw said at (symbol_tells runs of.carrier (Characters of.values) (rw of.is at found))) refl,
      c.refused.ensures ∙ c.refusal.ensures,
    )

pub returns-in-Refused : goal.returns-in-Refused
returns-in-Refused c =
    (Refused c.in-Refused.fault, λ runs found. (rw c.in-Refused.is at found).1 c.args.year, c.refused-in-Refused.ensures ∙ c.refusal-in-Refused.ensures)
