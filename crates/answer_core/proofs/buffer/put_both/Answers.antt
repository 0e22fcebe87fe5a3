use Rattle.std.proofs.Common.{◌∙◌, ◌++◌, arith, length-append}
use Rattle.digits_core.proofs.Pasted.{pasted_next}
use Rattle.answer_core.proofs.Formats.{at_front}
use Rattle.answer_core.proofs.buffer.put_both.Goals as goal

pub returns-then-count-out : goal.returns-then-count-out
returns-then-count-out c =
    let out = c.args.out.now in
    let first = c.args.first.now in
    let second = c.args.second.now in
    let count = length-append first second in
    let whole = pasted_next out c.put_at-middle.new.out c.put_at.new.out 0 c.put_at-middle.result first second (omega arith) c.put_at-middle.ensures.end
    c.put_at-middle.ensures.put c.put_at.ensures.put ∙ at_front out (first ++ second) in
    record {
      counted = omega (arith, count);
      front = λ fits. whole;
      unchanged = λ short. absurd (omega (arith, count, short, c.if-count-out.true));
    }
