use Rattle.std.proofs.Common.{List, length, ℕ}
use Rattle.element_core.specs.Terms.{Terms}
use Rattle.answer_core.specs.Formats.{word_of}
use Rattle.answer_core.specs.Rows.{IsDotsAnswer, IsPackedLine, packed_fault}
use Rattle.answer_core.specs.declared.answer.Answer.{Answer}
use Rattle.answer_core.proofs.Formats.{row_lines}
use Rattle.gs1_c.proofs.LinesByTerms.{answered_line}
use Rattle.gs1_c.proofs.answer.put_dots.Goals as goal

pub returns : goal.returns
returns c =
    let a = c.gs1_c_read_dots.new.answer in
    let Is : Terms → Answer → Type 0 = λ terms b. IsDotsAnswer terms c.args.bits.now c.args.count b in
    let IsLine : Terms → List ℕ → Type 0 = λ terms. IsPackedLine c.args.form terms c.args.bits.now c.args.count (packed_fault (length c.args.bits.now) c.args.count) in
    (_, answered_line c.args.year Is IsLine (word_of a) c.args.form a (λ terms. row_lines.1 c.args.form terms c.args.bits.now c.args.count a) c.gs1_c_read_dots.ensures.told, c.put_line.ensures)
