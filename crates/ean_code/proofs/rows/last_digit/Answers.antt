use Rattle.std.proofs.Common.{◌∙◌}
use Rattle.std.proofs.lemmas.List.{length-map}
use Rattle.ean_code.specs.declared.rows.TheConstants.{UPCE_DIGITS}
use Rattle.ean_code.specs.inner.NumberSets.{character_sets}
use Rattle.ean_code.specs.NumberSets.{upce_rows}
use Rattle.ean_code.proofs.ParityRows.{length-upce_row}
use Rattle.ean_code.proofs.RowTables.{upce_table, row_found, row_none}
use Rattle.ean_code.proofs.rows.last_digit.Goals as goal

pub returns-then-digit-clause-none : goal.returns-then-digit-clause-none
returns-then-digit-clause-none c =
    row_none upce_rows UPCE_DIGITS upce_table (character_sets c.args.left.now) c.packed_row.result 0 c.packed_row.ensures.value c.if-digit.true

pub returns-else-digit-clause-found : goal.returns-else-digit-clause-found
returns-else-digit-clause-found c =
    row_found upce_rows UPCE_DIGITS upce_table length-upce_row (character_sets c.args.left.now) c.packed_row.result 0
    (length-map c.args.left.now _ ∙ c.requires)
    c.packed_row.ensures.value c.packed_row.ensures.low c.if-digit.false
