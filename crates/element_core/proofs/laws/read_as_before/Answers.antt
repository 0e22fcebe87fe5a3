use Rattle.element_core.proofs.Before.{read_as_before}
use Rattle.element_core.proofs.TableLaws.{counts_first_rows}
use Rattle.element_core.proofs.laws.read_as_before.Goals as goal

pub returns-clause-lists : goal.returns-clause-lists
returns-clause-lists c = read_as_before

pub returns-clause-table : goal.returns-clause-table
returns-clause-table c = counts_first_rows
