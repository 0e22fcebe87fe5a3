use Rattle.std.proofs.Common.{◌∙◌, ap, arith, drop, sym}
use Rattle.answer_core.specs.Gaps.{kept_in}
use Rattle.answer_core.proofs.GapFacts.{gap_left}
use Rattle.answer_core.proofs.gap.first_sign.Goals as goal

pub returns-then-gap-gt0 : goal.returns-then-gap-gt0
returns-then-gap-gt0 c =
    let text = c.args.text.now in
    let gap_is = c.gap_length-gap.ensures in
    let some = c.if-gap-gt0.true in
    λ n. gap_left n c.args.place text (λ e. omega (arith, e, gap_is, some))
    ∙ ap (kept_in n c.args.place) (sym (c.without_first.ensures ∙ ap (λ k. drop k text) gap_is))
