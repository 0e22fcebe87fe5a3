use Rattle.picture_core.proofs.RunsOfDots.{SoFar}
use Rattle.picture_core.proofs.runs.put_runs.Given as goal

abbrev pub invariant-dots : goal.invariant-dots
invariant-dots l = SoFar l.level l.row l.widths l.count l.width l.is_dark l.grey-index
