use Rattle.std.proofs.Common.{Ok, Err, subst}
use Rattle.scan_core.specs.inner.Reading.{number_text, text_in}
use Rattle.element_core.specs.Elements.{IsElements, canonical}
use Rattle.scan_core.specs.Reading.ReadSymbol.{Characters, Number}
use Rattle.scan_core.proofs.AnswerFacts.{answer_from}
use Rattle.scan_core.proofs.CandidateShows.{symbol_tells}
use Rattle.scan_core.proofs.found.Found.answer.Goals as goal

pub returns-in-Ok : goal.returns-in-Ok
returns-in-Ok c =
    let of = c.in-Characters in
    λ runs found. answer_from runs c.args.year of.carrier (text_in of.values) (Ok c.in-Ok.elements)
    (symbol_tells runs of.carrier (Characters of.values) (rw of.is at found)) c.in-Ok.ensures

pub returns-in-Err : goal.returns-in-Err
returns-in-Err c =
    let of = c.in-Characters in
    λ runs found. answer_from runs c.args.year of.carrier (text_in of.values) (Err c.in-Err.fault)
    (symbol_tells runs of.carrier (Characters of.values) (rw of.is at found)) c.in-Err.ensures

pub returns-in-Number : goal.returns-in-Number
returns-in-Number c =
    let of = c.in-Number in
    λ runs found. answer_from runs c.args.year of.carrier (number_text of.gtin) (Ok c.of_gtin.result)
    (symbol_tells runs of.carrier (Number of.gtin) (rw of.is at found))
    (c.of_gtin.ensures.year, subst (λ l. IsElements c.args.year (canonical l) c.of_gtin.result.list) c.of_gtin.ensures.list c.of_gtin.ensures.reads)

pub returns-in-Refused : goal.returns-in-Refused
returns-in-Refused c = λ runs found. (rw c.in-Refused.is at found).1 c.args.year
