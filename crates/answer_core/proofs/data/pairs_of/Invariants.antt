use Rattle.std.proofs.Common.{length}
use Rattle.answer_core.proofs.data.pairs_of.Given as goal

abbrev pub decreases-loop-field : goal.decreases-loop-field
decreases-loop-field l = length l.rest
