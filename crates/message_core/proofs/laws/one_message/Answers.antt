use Rattle.message_core.proofs.OneMessage.{one_message}
use Rattle.message_core.proofs.laws.one_message.Goals as goal

pub returns : goal.returns
returns c = one_message c.one_list_or_fault.ensures
