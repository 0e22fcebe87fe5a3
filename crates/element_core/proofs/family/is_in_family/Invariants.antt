use Rattle.std.proofs.Common.{◌≡◌, drop}
use Rattle.element_core.specs.inner.Families.{is_in_family}
use Rattle.element_core.proofs.family.is_in_family.Given as goal

abbrev pub invariant-loop-i : goal.invariant-loop-i
invariant-loop-i l = is_in_family (drop l.i l.least) (drop l.i l.greatest) (drop l.i l.text) ≡ is_in_family l.least l.greatest l.text
