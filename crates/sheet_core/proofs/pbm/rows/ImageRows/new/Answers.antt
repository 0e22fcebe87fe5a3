-- Nothing was read, and nothing is held.
use Rattle.std.proofs.Common.{[], ap, arith, length, refl}
use Rattle.sheet_core.proofs.pbm.FileFacts.{had_none}
use Rattle.sheet_core.proofs.pbm.rows.ImageRows.new.Goals as goal

pub returns-clause-sheets : goal.returns-clause-sheets
returns-clause-sheets g c =
    record { same = refl; works = refl; had = had_none _ [] refl; count = refl; none = omega (arith, ap length c.requires) }
