use Rattle.std.proofs.Common.{◌≡◌, ◌+◌, ◌-◌, arith, length, suc}
use Rattle.answer_core.specs.Gaps.{without_gaps}
use Rattle.answer_core.proofs.GapFacts.{kept_full, kept_more}
use Rattle.answer_core.proofs.gap.without_gaps.Goals as goal

pub returns-then-not-put_byte-clause-none : goal.returns-then-not-put_byte-clause-none
returns-then-not-put_byte-clause-none c =
    let text = c.args.text.now in
    let m = length text - (c.loop-passed._passed + 1) in
    let low = c.loop-passed-test.true in
    let n_is : length text - c.loop-passed._passed ≡ suc m = omega arith in
    kept_full c.args.place c.loop-passed.rest.now c.first_sign-byte.result.1.now (without_gaps c.args.place text) c.first_sign-byte.result.0 (length text - c.loop-passed._passed) m n_is c.first_sign-byte.ensures
    c.loop-passed.left.items (c.put_byte.ensures.full c.if-not-put_byte.true) c.loop-passed.invariant.left

pub loop-passed-preserved : goal.loop-passed-preserved
loop-passed-preserved c =
    let text = c.args.text.now in
    let m = length text - (c.loop-passed._passed + 1) in
    let low = c.loop-passed-test.true in
    let n_is : length text - c.loop-passed._passed ≡ suc m = omega arith in
    record {
      left = kept_more c.args.place c.loop-passed.rest.now c.first_sign-byte.result.1.now (without_gaps c.args.place text) c.first_sign-byte.result.0 (length text - c.loop-passed._passed) m n_is
          c.first_sign-byte.ensures c.loop-passed.left.items c.put_byte.new.text.items (c.put_byte.ensures.put c.if-not-put_byte.false) c.loop-passed.invariant.left;
      few = c.put_byte.ensures.few c.loop-passed.invariant.few;
    }
