use Rattle.answer_core.proofs.Formats.{lines_tell}
use Rattle.answer_core.proofs.laws.lines_tell.Goals as goal

pub returns : goal.returns
returns c = lines_tell
