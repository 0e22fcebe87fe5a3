use Rattle.std.proofs.Common.{◌≤◌, List, ap, arith, length, subst, ℕ}
use Rattle.digits_core.specs.Buffers.{IsPut}
use Rattle.answer_core.specs.Formats.{worded_text}
use Rattle.answer_core.proofs.Formats.{word_short}
use Rattle.answer_core.proofs.answer.Answer.put_line.Goals as goal

pub put_worded-requires : goal.put_worded-requires
put_worded-requires c =
    let four : length c.args.self.now.identifier ≤ 4 = omega arith in
    omega (arith, ap length c.word_of.ensures, word_short c.args.self.now.identifier four)

pub returns : goal.returns
returns c =
    let IsWorded : List ℕ → Type 0 = λ w. IsPut (worded_text w c.args.form c.args.self.now) c.args.out.now c.put_worded.new.out c.put_worded.result in
    subst IsWorded c.word_of.ensures c.put_worded.ensures
