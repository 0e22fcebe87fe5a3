use Rattle.answer_core.proofs.Formats.{refused_lines}
use Rattle.answer_core.proofs.laws.refused_lines.Goals as goal

pub returns : goal.returns
returns c = refused_lines
