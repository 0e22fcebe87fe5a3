-- `written_answer` of `PrintedAnswers`: what is written is read again, and sheets have one list of answers.
use Rattle.command_runs.proofs.PrintedAnswers.{written_answer as law}
use Rattle.command_runs.proofs.printed.written_answer.Goals as goal

pub returns : goal.returns
returns c = law c.printed_answer.ensures c.scanned_once.ensures c.printed_is_read.ensures
