use Rattle.answer_core.proofs.ScanReads.{scan_reads}
use Rattle.answer_core.proofs.laws.scan_reads.Goals as goal

pub returns : goal.returns
returns c = scan_reads c.faultless_pairs.ensures
