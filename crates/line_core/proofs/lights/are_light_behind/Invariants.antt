use Rattle.std.proofs.Common.{◌+◌, ◌*◌, ◌≤◌, ◌<◌, ℕ}
use Rattle.line_core.specs.Ends.{at}
use Rattle.line_core.proofs.lights.are_light_behind.Given as goal

abbrev pub invariant-samples : goal.invariant-samples
invariant-samples l = (i : ℕ) → i < l.sample
    → l.light.halves * l.end + l.light.width ≤ l.light.halves * (l.light.step * i) → l.light.both ≤ 2 * at l.values i
