use Rattle.std.proofs.Common.{◌≡◌, ◌-◌, length}
use Rattle.answer_core.specs.Gaps.{before_gaps, before_gaps_in}
use Rattle.answer_core.proofs.gap.before_gaps.Given as goal

abbrev pub invariant-loop-passed : goal.invariant-loop-passed
invariant-loop-passed l = before_gaps_in (length l.text - l._passed) l.place l.rest ≡ before_gaps l.place l.text
