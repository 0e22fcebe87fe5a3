use Rattle.std.proofs.Common.{◌≡◌, ◌-◌, length}
use Rattle.answer_core.specs.Gaps.{behind_gaps, behind_gaps_in}
use Rattle.answer_core.proofs.gap.behind_gaps.Given as goal

abbrev pub invariant-loop-passed : goal.invariant-loop-passed
invariant-loop-passed l = behind_gaps_in (length l.text - l._passed) l.place l.rest ≡ behind_gaps l.place l.text
