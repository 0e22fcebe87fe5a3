use Rattle.answer_core.proofs.Formats.{row_lines}
use Rattle.answer_core.proofs.laws.row_lines.Goals as goal

pub returns : goal.returns
returns c = row_lines
