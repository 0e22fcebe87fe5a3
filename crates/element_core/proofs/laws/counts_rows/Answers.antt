use Rattle.element_core.proofs.TableLaws.{counts_rows}
use Rattle.element_core.proofs.laws.counts_rows.Goals as goal

pub returns : goal.returns
returns c = counts_rows
