use Rattle.std.proofs.Common.{◌+◌, ◌<◌, ℕ}
use Rattle.std.specs.Prelude.{slice_index_or}
use Rattle.picture_core.specs.Samples.{IsSampleAt}
use Rattle.picture_core.proofs.samples.are_means.Given as goal

abbrev pub invariant-samples : goal.invariant-samples
invariant-samples l = (sample : ℕ) → sample < l.sample → IsSampleAt l.picture l.line sample (slice_index_or l.values (l.from + sample) 0)
