use Rattle.std.proofs.Common.{ap, sym}
use Rattle.std.specs.Prelude.{not}
use Rattle.element_core.specs.inner.Families.{row_with}
use Rattle.element_core.proofs.PairFaults.{predefined_ahead}
use Rattle.element_core.proofs.pairs.needs_separator.Goals as goal

pub returns-in-Some : goal.returns-in-Some
returns-in-Some c = ap not (predefined_ahead (row_with c.in-Some.family c.args.ai.now) c.args.ai.now (sym c.in-Some.ensures.row))
