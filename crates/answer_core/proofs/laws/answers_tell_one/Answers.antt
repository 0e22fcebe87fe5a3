use Rattle.answer_core.proofs.Standing.{answers_tell_one}
use Rattle.answer_core.proofs.laws.answers_tell_one.Goals as goal

pub returns : goal.returns
returns c = answers_tell_one
