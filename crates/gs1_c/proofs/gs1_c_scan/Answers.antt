use Rattle.std.proofs.Common.{List, ℕ}
use Rattle.element_core.specs.Terms.{Terms}
use Rattle.element_core.specs.declared.form.Form.TheVariants.{Pairs}
use Rattle.message_core.specs.Messages.{IsMessageLine}
use Rattle.answer_core.specs.Formats.{word_of}
use Rattle.answer_core.specs.Reads.{IsMessageAnswer}
use Rattle.answer_core.specs.declared.answer.Answer.{Answer}
use Rattle.answer_core.proofs.Formats.{message_lines}
use Rattle.gs1_c.proofs.LinesByTerms.{answered_line}
use Rattle.gs1_c.proofs.gs1_c_scan.Goals as goal

pub returns : goal.returns
returns c =
    let a = c.gs1_c_read_message.new.answer in
    let Is : Terms → Answer → Type 0 = λ terms b. IsMessageAnswer terms c.args.text.now b in
    let IsLine : Terms → List ℕ → Type 0 = λ terms. IsMessageLine Pairs terms c.args.text.now in
    (_, answered_line c.args.year Is IsLine (word_of a) Pairs a (λ terms. message_lines Pairs terms c.args.text.now a) c.gs1_c_read_message.ensures.told, c.put_line.ensures)
