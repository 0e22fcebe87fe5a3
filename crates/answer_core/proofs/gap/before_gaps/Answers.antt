use Rattle.std.proofs.Common.{◌≡◌, ◌∙◌, ◌+◌, ◌-◌, ap, arith, length, suc, sym, take}
use Rattle.answer_core.specs.Gaps.{before_gaps_in, last_gap_length}
use Rattle.answer_core.proofs.GapFacts.{back_more}
use Rattle.answer_core.proofs.gap.before_gaps.Goals as goal

pub loop-passed-preserved : goal.loop-passed-preserved
loop-passed-preserved c =
    let text = c.args.text.now in
    let rest = c.loop-passed.rest.now in
    let m = length text - (c.loop-passed._passed + 1) in
    let low = c.loop-passed-test.true in
    let n_is : length text - c.loop-passed._passed ≡ suc m = omega arith in
    let gap_is = c.last_gap_length-gap.ensures in
    let some = c.if-gap-eq0.false in
    let left : c.saturating_sub.result ≡ length rest - last_gap_length c.args.place rest = c.saturating_sub.ensures ∙ ap (λ k. length rest - k) gap_is in
    ap (before_gaps_in m c.args.place) (ap (λ k. take k rest) left)
    ∙ sym (back_more (length text - c.loop-passed._passed) m c.args.place rest n_is (λ e. some (gap_is ∙ e))) ∙ c.loop-passed.invariant
