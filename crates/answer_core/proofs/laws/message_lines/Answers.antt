use Rattle.answer_core.proofs.Formats.{message_lines}
use Rattle.answer_core.proofs.laws.message_lines.Goals as goal

pub returns : goal.returns
returns c = message_lines
