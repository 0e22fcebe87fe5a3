use Rattle.std.proofs.Common.{◌≡◌, drop}
use Rattle.element_core.specs.Pairs.{entries_of, entries_fault}
use Rattle.element_core.proofs.pairs.first_fault.Given as goal

abbrev pub invariant-loop-i : goal.invariant-loop-i
invariant-loop-i l = entries_fault l.year l.i (entries_of (drop l.i l.pairs)) ≡ entries_fault l.year 0 (entries_of l.pairs)
