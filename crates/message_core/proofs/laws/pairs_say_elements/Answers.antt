use Rattle.message_core.proofs.OneMessage.{pairs_say_elements}
use Rattle.message_core.proofs.laws.pairs_say_elements.Goals as goal

pub returns : goal.returns
returns c = pairs_say_elements c.gtins_are_checked.ensures c.gtin_reads.ensures c.faultless_pairs.ensures c.pairs_differ.ensures
