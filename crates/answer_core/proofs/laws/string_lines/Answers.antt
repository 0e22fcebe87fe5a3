use Rattle.answer_core.proofs.Formats.{string_lines}
use Rattle.answer_core.proofs.laws.string_lines.Goals as goal

pub returns : goal.returns
returns c = string_lines
