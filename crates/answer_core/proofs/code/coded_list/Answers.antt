use Rattle.std.proofs.Common.{refl}
use Rattle.answer_core.specs.Codes.{coded_list}
use Rattle.answer_core.proofs.code.coded_list.Goals as goal

pub returns : goal.returns
unfolding coded_list
returns c = refl
