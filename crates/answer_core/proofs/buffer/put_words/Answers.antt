use Rattle.std.proofs.Common.{◌∷◌, arith, length-append}
use Rattle.answer_core.proofs.PutFacts.{two_words}
use Rattle.answer_core.proofs.buffer.put_words.Goals as goal

pub returns-then-count-out : goal.returns-then-count-out
returns-then-count-out c =
    let first = c.args.first.now in
    let second = c.args.second.now in
    let out = c.args.out.now in
    let room = c.if-count-out.true in
    let count = length-append first (32 ∷ second) in
    record {
      counted = omega (arith, count);
      front = λ fits. rw (c.copy_from_slice.ensures.after, c.copy_from_slice-then-count-out.ensures.after) (two_words first second out room);
      unchanged = λ short. absurd (omega (arith, count, room, short));
    }
