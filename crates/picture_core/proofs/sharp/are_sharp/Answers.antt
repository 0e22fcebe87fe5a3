use Rattle.line_core.specs.Ends.{at}
use Rattle.picture_core.specs.Sharp.{IsSharpAt}
use Rattle.picture_core.proofs.BelowFacts.{below_more}
use Rattle.picture_core.proofs.sharp.are_sharp.Goals as goal

pub samples-preserved : goal.samples-preserved
samples-preserved c = below_more (λ sample. IsSharpAt c.args.kernel.now.more c.args.kernel.now.less c.args.means.now sample (at c.args.values.now sample))
    c.samples.sample c.samples.invariant (c.is_sharp.ensures (cc))
