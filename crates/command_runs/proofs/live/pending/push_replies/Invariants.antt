-- The text has a line for each reply so far.
use Rattle.command_runs.proofs.live.Words.{AnswersBy, TellsPending, string_bytes, take}
use Rattle.command_runs.proofs.live.pending.push_replies.Given as goal

abbrev pub invariant-loop-reply : goal.invariant-loop-reply
invariant-loop-reply l = AnswersBy (TellsPending l.terms l.lanes) (take l.reply-index l.replies) (string_bytes l.text)
