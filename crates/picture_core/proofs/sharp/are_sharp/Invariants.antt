use Rattle.std.proofs.Common.{◌<◌, ℕ}
use Rattle.line_core.specs.Ends.{at}
use Rattle.picture_core.specs.Sharp.{IsSharpAt}
use Rattle.picture_core.proofs.sharp.are_sharp.Given as goal

abbrev pub invariant-samples : goal.invariant-samples
invariant-samples l = (sample : ℕ) → sample < l.sample → IsSharpAt l.kernel.more l.kernel.less l.means sample (at l.values sample)
