use Rattle.message_core.proofs.OneMessage.{one_message_line}
use Rattle.message_core.proofs.laws.one_message_line.Goals as goal

pub returns : goal.returns
returns c = one_message_line c.one_list_or_fault.ensures
