use Rattle.ean_code.proofs.RowTables.{packed_six}
use Rattle.ean_code.proofs.rows.packed_row.Goals as goal

pub returns-clause-value : goal.returns-clause-value
returns-clause-value c =
    rw (c.bit.ensures.value, c.bit-2.ensures.value, c.bit-3.ensures.value, c.bit-4.ensures.value, c.bit-5.ensures.value, c.bit-6.ensures.value)
    (packed_six c.args.left.now _ c.requires)
