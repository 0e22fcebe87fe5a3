use Rattle.std.proofs.Common.{◌≡◌, ◌+◌, length}
use Rattle.answer_core.specs.Formats.{before_zero}
use Rattle.answer_core.proofs.format.before_zero.Given as goal

abbrev pub invariant-loop-rest : goal.invariant-loop-rest
invariant-loop-rest l = record {
  left : l.count + length (before_zero l.rest) ≡ length (before_zero l.bytes);
  within : l.count + length l.rest ≡ length l.bytes;
}

abbrev pub decreases-loop-rest : goal.decreases-loop-rest
decreases-loop-rest l = length l.rest
