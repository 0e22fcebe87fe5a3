use Rattle.std.proofs.Common.{◌≡◌, ◌+◌, ◌*◌, ◌≤◌, drop}
use Rattle.digits_core.specs.Digits.{digits_of, weighted}
use Rattle.element_core.proofs.checks.weighted_sum.Given as goal

abbrev pub invariant-loop-i : goal.invariant-loop-i
invariant-loop-i l = record { told : l.sum + weighted (digits_of (drop l.i l.bytes)) ≡ weighted (digits_of l.bytes); small : l.sum ≤ 765 * l.i }
