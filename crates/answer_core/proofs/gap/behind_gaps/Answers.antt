use Rattle.std.proofs.Common.{◌≡◌, ◌∙◌, ◌+◌, ◌-◌, ap, arith, drop, length, suc, sym}
use Rattle.answer_core.specs.Gaps.{behind_gaps_in}
use Rattle.answer_core.proofs.GapFacts.{front_more}
use Rattle.answer_core.proofs.gap.behind_gaps.Goals as goal

pub loop-passed-preserved : goal.loop-passed-preserved
loop-passed-preserved c =
    let text = c.args.text.now in
    let rest = c.loop-passed.rest.now in
    let m = length text - (c.loop-passed._passed + 1) in
    let low = c.loop-passed-test.true in
    let n_is : length text - c.loop-passed._passed ≡ suc m = omega arith in
    let gap_is = c.gap_length-gap.ensures in
    let some = c.if-gap-eq0.false in
    ap (behind_gaps_in m c.args.place) (c.without_first-rest.ensures ∙ ap (λ k. drop k rest) gap_is)
    ∙ sym (front_more (length text - c.loop-passed._passed) m c.args.place rest n_is (λ e. some (gap_is ∙ e))) ∙ c.loop-passed.invariant
