use Rattle.answer_core.proofs.LinkReads.{link_reads}
use Rattle.answer_core.proofs.laws.link_reads.Goals as goal

pub returns : goal.returns
returns c = link_reads c.codes_are_read.ensures c.key_part_is.ensures
