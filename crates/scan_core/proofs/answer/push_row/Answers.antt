use Rattle.std.proofs.Common.{◌∙◌, ◌++◌, ◌∷◌, List, ℕ, ap, string_bytes, subst}
use Rattle.std.proofs.lemmas.Result.{on_ok_weaker}
use Rattle.scan_core.specs.Lines.{identifier}
use Rattle.scan_core.specs.Reading.{IsFound}
use Rattle.scan_core.specs.declared.answer.Answer.TheVariants.{Read}
use Rattle.scan_core.proofs.answer.push_row.Goals as goal

pub returns-in-Some : goal.returns-in-Some
returns-in-Some c =
    let carrier = c.in-Some.carrier in
    let says = c.in-Some.ensures in
    on_ok_weaker c.push_said.result
    (λ put. (
      Read carrier (record { year = c.args.year; list = says.0 }),
      says.1,
      rw c.in-HumanReadable.is (put ∙ ap (λ (t : List ℕ). string_bytes c.args.text.now ++ (identifier carrier ++ (32 ∷ t))) says.2),
    )) c.push_said.ensures

pub returns-in-Some-found : goal.returns-in-Some-found
returns-in-Some-found c =
    on_ok_weaker c.push_line.result (λ put. (put.0, put.1 c.args.runs.now c.in-Some-found.ensures, put.2)) c.push_line.ensures

pub returns-in-None : goal.returns-in-None
returns-in-None c =
    on_ok_weaker c.push_line-in-None.result
    (λ put. (put.0, put.1 c.args.runs.now (subst (λ ws. IsFound ws c.found_in.result) c.widths.ensures.value c.found_in.ensures), put.2))
    c.push_line-in-None.ensures
