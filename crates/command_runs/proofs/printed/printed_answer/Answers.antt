-- `printed_answer` of `PrintedAnswers`: a cell shows bars, which answer, or is blank, and its dots make a row.
use Rattle.command_runs.proofs.PrintedAnswers.{printed_answer as law}
use Rattle.command_runs.proofs.printed.printed_answer.Goals as goal

pub returns : goal.returns
returns c = law c.bar_rows_answer.ensures c.empty_cells_are_blank.ensures c.dots_make_row.ensures
