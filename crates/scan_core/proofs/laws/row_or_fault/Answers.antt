use Rattle.std.proofs.Common.{sym}
use Rattle.scan_core.proofs.RowFacts.{fault_of, row_of}
use Rattle.scan_core.proofs.laws.row_or_fault.Goals as goal

pub returns : goal.returns
returns c = λ widths. ((λ row. fault_of widths row), λ none. row_of widths (sym none))
