use Rattle.std.proofs.Common.{◌≡◌, length}
use Rattle.answer_core.specs.Codes.{unknown_country}
use Rattle.answer_core.proofs.code.unknown_country.Given as goal

abbrev pub invariant-loop-rest : goal.invariant-loop-rest
invariant-loop-rest l = unknown_country l.rest ≡ unknown_country l.numbers

abbrev pub decreases-loop-rest : goal.decreases-loop-rest
decreases-loop-rest l = length l.rest
