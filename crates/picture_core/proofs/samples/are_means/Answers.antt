use Rattle.std.specs.Prelude.{◌+◌, slice_index_or}
use Rattle.picture_core.specs.Samples.{IsSampleAt}
use Rattle.picture_core.proofs.BelowFacts.{below_more}
use Rattle.picture_core.proofs.samples.are_means.Goals as goal

pub samples-preserved : goal.samples-preserved
samples-preserved c = below_more (λ sample. IsSampleAt c.args.picture.now c.args.line.now sample (slice_index_or c.args.values.now (c.args.from + sample) 0))
    c.samples.sample c.samples.invariant (c.is_sample.ensures (cc))
