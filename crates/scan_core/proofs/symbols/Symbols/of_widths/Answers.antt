use Rattle.std.proofs.Common.{refl}
use Rattle.scan_core.proofs.RowFacts.{row_of, row_short}
use Rattle.scan_core.proofs.symbols.Symbols.of_widths.Goals as goal

pub invariant_of-result : goal.invariant_of-result
invariant_of-result c = record { row = row_of c.args.widths.now c.in_default.ensures; light = refl }

pub returns-clause-few : goal.returns-clause-few
returns-clause-few c = row_short c.args.widths.now (row_of c.args.widths.now c.in_default.ensures)
