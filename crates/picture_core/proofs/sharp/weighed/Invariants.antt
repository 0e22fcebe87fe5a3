use Rattle.std.proofs.Common.{◌≡◌, ◌+◌, ◌*◌, ◌<◌}
use Rattle.picture_core.specs.Sharp.{weighed}
use Rattle.picture_core.proofs.sharp.weighed.Given as goal

abbrev pub invariant-sides : goal.invariant-sides
invariant-sides l = record {
  sum : l.sum ≡ weighed l.weights l.values l.sample l.away;
  few : l.sum < (2 * l.away + 1) * 18446744073709551616;
}
