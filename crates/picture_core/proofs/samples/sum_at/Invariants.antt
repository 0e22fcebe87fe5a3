use Rattle.std.proofs.Common.{◌≡◌, ◌*◌, ◌<◌, ◌≤◌, ℕ}
use Rattle.picture_core.specs.Samples.{IsInPicture, sample_down, sample_right, samples_sum}
use Rattle.picture_core.proofs.samples.sum_at.Given as goal

abbrev pub invariant-lines : goal.invariant-lines
invariant-lines l = record {
  sum : l.sum ≡ samples_sum l.picture l.line l.sample l.lower;
  amid : (lower : ℕ) → lower < l.lower → IsInPicture l.picture (sample_right l.line l.sample lower) (sample_down l.line l.sample lower);
  few : l.sum ≤ 524288 * l.lower;
}
