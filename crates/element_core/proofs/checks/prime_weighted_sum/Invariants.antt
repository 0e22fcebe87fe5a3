use Rattle.std.proofs.Common.{◌≡◌, ◌+◌, ◌*◌, ◌≤◌, drop}
use Rattle.element_core.specs.Checks.{prime_weighted}
use Rattle.element_core.proofs.checks.prime_weighted_sum.Given as goal

abbrev pub invariant-loop-i : goal.invariant-loop-i
invariant-loop-i l = record { told : l.sum + prime_weighted (drop l.i l.text) ≡ prime_weighted l.text; small : l.sum ≤ 21165 * l.i }
