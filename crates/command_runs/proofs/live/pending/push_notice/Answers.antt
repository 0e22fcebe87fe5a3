-- The line of a notice that is a message is that of the message.
use Rattle.command_runs.proofs.live.pending.push_notice.Goals as goal

pub returns-in-Message : goal.returns-in-Message
returns-in-Message c = rw (c.in-Message.is, ← c.as_slice.ensures.value) c.push_message.ensures
