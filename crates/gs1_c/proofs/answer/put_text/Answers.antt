use Rattle.std.proofs.Common.{List, ℕ}
use Rattle.element_core.specs.Lines.{IsElementsLine, elements_text}
use Rattle.element_core.specs.Terms.{Terms}
use Rattle.answer_core.specs.Reads.{IsStringAnswer}
use Rattle.answer_core.specs.declared.answer.Answer.{Answer}
use Rattle.answer_core.proofs.Formats.{string_lines}
use Rattle.gs1_c.proofs.LinesByTerms.{answered_line}
use Rattle.gs1_c.proofs.answer.put_text.Goals as goal

pub returns : goal.returns
returns c =
    let a = c.gs1_c_read_elements.new.answer in
    let Is : Terms → Answer → Type 0 = λ terms b. IsStringAnswer terms c.args.text.now b in
    let IsLine : Terms → List ℕ → Type 0 = λ terms. IsElementsLine c.args.word.now (elements_text c.args.form) terms c.args.text.now in
    (_, answered_line c.args.year Is IsLine c.args.word.now c.args.form a (λ terms. string_lines c.args.word.now c.args.form terms c.args.text.now a) c.gs1_c_read_elements.ensures.told, c.put_worded.ensures)
