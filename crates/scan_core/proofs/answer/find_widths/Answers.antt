use Rattle.scan_core.proofs.RowFacts.{row_of}
use Rattle.scan_core.proofs.answer.find_widths.Goals as goal

pub found_in-requires : goal.found_in-requires
found_in-requires c = row_of c.args.widths.now c.in-None.ensures
