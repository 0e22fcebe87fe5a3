use Rattle.std.proofs.Common.{◌∙◌, ap, arith, length, sym, take}
use Rattle.answer_core.specs.Formats.{before_zero}
use Rattle.answer_core.proofs.Formats.{before_zero_is, word_if_some}
use Rattle.answer_core.proofs.format.word_of.Goals as goal

pub slice_bounds-result-end-else-count-eq0 : goal.slice_bounds-result-end-else-count-eq0
slice_bounds-result-end-else-count-eq0 c =
    let bytes = c.args.identifier.now in
    sym (ap (λ k. length (take k bytes)) c.before_zero-count.ensures ∙ ap length (before_zero_is bytes) ∙ sym c.before_zero-count.ensures)

pub returns-else-count-eq0 : goal.returns-else-count-eq0
returns-else-count-eq0 c =
    let word = before_zero c.args.identifier.now in
    ap (λ k. take k c.args.identifier.now) c.before_zero-count.ensures ∙ before_zero_is c.args.identifier.now
    ∙ word_if_some word (omega (arith, c.before_zero-count.ensures, c.if-count-eq0.false))
