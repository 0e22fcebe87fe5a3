use Rattle.scan_core.proofs.RatioFacts.{each_ratio_is_read as law}
use Rattle.scan_core.proofs.laws.each_ratio_is_read.Goals as goal

pub returns : goal.returns
returns c = law c.two_widths.ensures c.measures_of_kind.ensures c.gtin_reads.ensures
