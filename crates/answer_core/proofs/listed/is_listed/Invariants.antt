use Rattle.std.proofs.Common.{◌≡◌, length}
use Rattle.answer_core.specs.Listed.{is_behind_comma}
use Rattle.answer_core.proofs.listed.is_listed.Given as goal

abbrev pub invariant-loop-rest : goal.invariant-loop-rest
invariant-loop-rest l = is_behind_comma l.word l.rest ≡ is_behind_comma l.word l.list

abbrev pub decreases-loop-rest : goal.decreases-loop-rest
decreases-loop-rest l = length l.rest
