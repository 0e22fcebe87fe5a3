use Rattle.std.proofs.Common.{◌∙◌, List, ℕ, ◌∷◌, ◌++◌, Ok, Err, ap, refl, string_bytes, subst, inl, inr}
use Rattle.std.proofs.lemmas.Result.{on_ok_weaker}
use Rattle.element_core.specs.Elements.{FirstFault, IsElements}
use Rattle.element_core.specs.Lines.{elements_text}
use Rattle.scan_core.specs.Answers.{row_text}
use Rattle.scan_core.specs.declared.answer.Answer.TheVariants.{Read, Refused}
use Rattle.scan_core.specs.declared.fault.RowFault.TheVariants.{Code128, Elements}
use Rattle.scan_core.specs.Reading.ReadSymbol.{Characters}
use Rattle.scan_core.proofs.AnswerFacts.{answer_from}
use Rattle.scan_core.proofs.CandidateShows.{symbol_tells}
use Rattle.scan_core.proofs.found.push_characters.Goals as goal

pub returns-in-Ok : goal.returns-in-Ok
returns-in-Ok c =
    let carrier = c.args.carrier in
    let values = c.args.values.now in
    let year = c.args.year in
    let text : List ℕ = c.in-Ok.read.items in
    let said = ap row_text (rw c.in-Ok.is at c.text_of.ensures.text) in
    let whole = c.as_slice.ensures.value in
    let before = string_bytes c.args.text.now in
    on_ok_weaker c.push.result
    (λ added. elim c.elements_line.ensures [
      | inl read ↦ (
        Read carrier (record { year = year; list = read.0 }),
        λ runs found. answer_from runs year carrier (Ok text) (Ok (record { year = year; list = read.0 }))
            (rw said at (symbol_tells runs carrier (Characters values) found))
            (refl, subst (λ (t : List ℕ). IsElements year t read.0) whole read.1),
        added ∙ ap (λ (t : List ℕ). before ++ t)
            (read.2 ∙ ap (λ (w : List ℕ). w ++ (32 ∷ elements_text c.args.form read.0)) c.identifier.ensures),
      )
      | inr fault ↦ (
        Refused (Elements fault.0),
        λ runs found. answer_from runs year carrier (Ok text) (Err (Elements fault.0))
            (rw said at (symbol_tells runs carrier (Characters values) found))
            (fault.0, subst (λ (t : List ℕ). FirstFault year t fault.0) whole fault.1, refl),
        added ∙ ap (λ (t : List ℕ). before ++ t) fault.2,
      )
    ]) c.push.ensures

pub returns-in-Err : goal.returns-in-Err
returns-in-Err c =
    let fault = Code128 c.in-Err.fault in
    let said = ap row_text (rw c.in-Err.is at c.text_of.ensures.fault) in
    on_ok_weaker c.push_refusal.result
    (λ added. (
      Refused fault,
      λ runs found. answer_from runs c.args.year c.args.carrier (Err fault) (Err fault)
          (rw said at (symbol_tells runs c.args.carrier (Characters c.args.values.now) found)) refl,
      added,
    )) c.push_refusal.ensures
