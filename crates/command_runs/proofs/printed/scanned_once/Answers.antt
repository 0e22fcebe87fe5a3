-- `scanned_once` of `PrintedAnswers`: dots determine a row, and a row has one answer.
use Rattle.command_runs.proofs.PrintedAnswers.{scanned_once as law}
use Rattle.command_runs.proofs.printed.scanned_once.Goals as goal

pub returns : goal.returns
returns c = law c.dots_determine.ensures c.one_answer.ensures
