use Rattle.std.proofs.Common.{◌≡◌, length, map}
use Rattle.answer_core.specs.Codes.{coding_in, coding_of}
use Rattle.answer_core.specs.inner.Codes.{coded_of}
use Rattle.answer_core.proofs.code.coding_of.Given as goal

abbrev pub invariant-loop-rest : goal.invariant-loop-rest
invariant-loop-rest l = coding_in l.ai (map coded_of l.rest) ≡ coding_of l.ai

abbrev pub decreases-loop-rest : goal.decreases-loop-rest
decreases-loop-rest l = length l.rest
