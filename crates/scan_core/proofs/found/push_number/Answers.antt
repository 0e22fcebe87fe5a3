use Rattle.std.proofs.Common.{◌∙◌, List, ℕ, [], ◌∷◌, ◌++◌, Ok, ap, refl, string_bytes}
use Rattle.std.proofs.lemmas.Result.{on_ok_weaker}
use Rattle.element_core.specs.Elements.{gtin_entry}
use Rattle.element_core.specs.Lines.{elements_text}
use Rattle.scan_core.specs.inner.Reading.{number_text}
use Rattle.scan_core.specs.declared.answer.Answer.TheVariants.{Read}
use Rattle.scan_core.specs.Reading.ReadSymbol.{Number}
use Rattle.scan_core.proofs.AnswerFacts.{answer_from}
use Rattle.scan_core.proofs.CandidateShows.{symbol_tells}
use Rattle.scan_core.proofs.found.push_number.Goals as goal

pub returns : goal.returns
returns c = λ year.
    let carrier = c.args.carrier in
    let gtin = c.args.gtin.now in
    let list = gtin_entry gtin ∷ [] in
    let before = string_bytes c.args.text.now in
    let added = c.push_gtin_element.ensures in
    on_ok_weaker c.push_gtin_element.result
    (λ put. (
      Read carrier (record { year = year; list = list }),
      λ runs found. answer_from runs year carrier (number_text gtin) (Ok (record { year = year; list = list }))
          (symbol_tells runs carrier (Number gtin) found) (refl, added.reads year),
      put ∙ ap (λ (w : List ℕ). before ++ (w ++ (32 ∷ elements_text c.args.form list))) c.identifier.ensures,
    )) added.text
