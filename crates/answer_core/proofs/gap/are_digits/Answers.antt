use Rattle.std.proofs.Common.{◌≡◌, ◌∙◌, ◌+◌, ◌-◌, [], arith, length, suc, sym}
use Rattle.answer_core.proofs.GapFacts.{digits_end, digits_more}
use Rattle.answer_core.proofs.gap.are_digits.Goals as goal

pub returns-then-not-is_digit_if_any : goal.returns-then-not-is_digit_if_any
returns-then-not-is_digit_if_any c =
    let text = c.args.text.now in
    let m = length text - (c.loop-passed._passed + 1) in
    let low = c.loop-passed-test.true in
    let n_is : length text - c.loop-passed._passed ≡ suc m = omega arith in
    sym (digits_end c.args.place c.loop-passed.rest.now c.first_sign-byte.result.1.now [] c.first_sign-byte.result.0 (length text - c.loop-passed._passed) m n_is c.first_sign-byte.ensures
    (sym c.is_digit_if_any.ensures ∙ c.if-not-is_digit_if_any.true)) ∙ c.loop-passed.invariant

pub loop-passed-preserved : goal.loop-passed-preserved
loop-passed-preserved c =
    let text = c.args.text.now in
    let m = length text - (c.loop-passed._passed + 1) in
    let low = c.loop-passed-test.true in
    let n_is : length text - c.loop-passed._passed ≡ suc m = omega arith in
    sym (digits_more c.args.place c.loop-passed.rest.now c.first_sign-byte.result.1.now [] c.first_sign-byte.result.0 (length text - c.loop-passed._passed) m n_is c.first_sign-byte.ensures
    (sym c.is_digit_if_any.ensures ∙ c.if-not-is_digit_if_any.false)) ∙ c.loop-passed.invariant
