use Rattle.std.proofs.Common.{◌≡◌, ◌∙◌, ◌≤◌, List, ap₂, arith, length, sym, take, ℕ}
use Rattle.std.proofs.Math.Seq.{take-append_seam}
use Rattle.std.proofs.lemmas.Slice.Eq.{bytes_eq-Decides}
use Rattle.element_core.specs.declared.form.Form.TheVariants as form
use Rattle.answer_core.specs.Formats.{format_text}
use Rattle.answer_core.proofs.answer.Answer.has_data.Goals as goal

pub returns-then-count-le-MOST_LINE : goal.returns-then-count-le-MOST_LINE
returns-then-count-le-MOST_LINE c is =
    let text = format_text form.Pairs c.args.self.now in
    let put = c.put_line-count.ensures in
    let fits : length text ≤ 292 = omega (arith, put.counted, c.if-count-le-MOST_LINE.true) in
    let front = put.front fits in
    let same : take c.put_line-count.result c.put_line-count.new.out ≡ c.args.line.now =
    (bytes_eq-Decides (take c.put_line-count.result c.put_line-count.new.out) c.args.line.now).0 (sym c.eq.ensures ∙ is) in
    sym (ap₂ (λ (n : ℕ) (t : List ℕ). take n t) put.counted front ∙ take-append_seam text _) ∙ same
