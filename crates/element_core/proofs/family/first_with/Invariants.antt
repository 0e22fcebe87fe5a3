use Rattle.std.proofs.Common.{◌≡◌, drop}
use Rattle.element_core.specs.inner.Families.{row_by}
use Rattle.element_core.proofs.family.first_with.Given as goal

abbrev pub invariant-loop-family : goal.invariant-loop-family
invariant-loop-family l = row_by l.text (drop l.family-index l.table) ≡ row_by l.text l.table
